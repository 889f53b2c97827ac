-- A host that interns the same words again gets the same number, and nothing changes.
use Prim.Native.Nat.{ℕ, ◌≤◌}
use mathlib.Core.Path.{◌≡◌, ap, ◌∙◌}
use mathlib.Core.Bool.{true}
use lib.ListN.{length}
use Rattle.std.specs.Prelude.{Ok}
use Rattle.types.specs.Node.{Node, node, well, linked, below, names}
use Rattle.types.specs.Memory.{flat, heads, words_of, starts_of, counters_of}
use Rattle.types.specs.Reply.{reply, reply_of}
use Rattle.types.proofs.Tests.{and_true, both}
use Rattle.types.proofs.Lists.{below_more, length_padded}
use Rattle.types.proofs.Decodes.{well_parts, parts_well}
use Rattle.types.proofs.Growth.{ext_length}
use Rattle.node_store.specs.Intern.{intern}
use Rattle.arena.specs.Theorems.{InternTwice}
use Rattle.node_store.proofs.Interning.{done, done_ext, done_again, done_room, done_holds}
use Rattle.arena.proofs.Answers.{intern_words_is}

-- a node that may stand in an arena may stand in a grown one
linked_more : (table n m : ℕ) (x : Node) → n ≤ m → linked table n x ≡ true → linked table m x ≡ true
unfolding linked
linked_more table n m (node t cs) l e =
    let p = and_true (below n cs) (below table (names t)) e in
    both (below_more n m cs l p.0) p.1

pub well_more : (table n m : ℕ) (x : Node) → n ≤ m → well table n x ≡ true → well table m x ≡ true
well_more table n m x l e =
    let W = well_parts table n x e in
    parts_well table m x (record { formed_so = W.formed_so; linked_so = linked_more table n m x l W.linked_so; rising_so = W.rising_so })

-- the second call
pub intern_twice : InternTwice
unfolding reply_of
intern_twice t w s c ns a x n b e H g i =
    let D = done (length w) (length s) x a n b i in
    let K = done_holds H g D in
    let r = done_room H D in
    let k = length_padded (length w) (flat b) r.0 in
    let l = length_padded (length s) (heads b) r.1 in
    let again : intern (length (words_of (length w) b)) (length (starts_of (length s) b)) x b ≡ Ok (n, b)
    = (λ j. intern (k j) (l j) x b) ∙ done_again (length ns) H.good g D in
    record {
      first = intern_words_is t w s c ns a x e H g ∙ ap (reply_of w s c) i;
      second = intern_words_is t (words_of (length w) b) (starts_of (length s) b) (counters_of b) ns b x e K (well_more (length ns) (length a) (length b) x (ext_length a b (done_ext D)) g)
          ∙ ap (reply_of (words_of (length w) b) (starts_of (length s) b) (counters_of b)) again
          ∙ (λ j. reply (Ok n) (counters_of b) (words_of (k j) b) (starts_of (l j) b));
    }
