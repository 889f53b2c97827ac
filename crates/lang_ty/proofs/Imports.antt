-- What `import_from_arena` answers and leaves: an imported type is structurally equal to the one it came from, old nodes stay, a type that the target holds is found, and 12 is answered exactly where a reachable name is lacking.
use Prim.Native.Nat.{ℕ, suc, ◌-◌, ◌<◌, ◌≤◌}
use mathlib.Core.Path.{◌≡◌, refl, sym, ap, ◌∙◌, subst}
use mathlib.Core.Bool.{Bool, true, false}
use mathlib.Core.List.{List, ◌++◌, append_assoc}
use mathlib.Core.Logic.{◌↔◌}
use native.Mathlib.Omega.{arith}
use lib.ListN.{length, take, replicate, length-append}
use lib.Seq.{take_at}
use borrow.Author.Tests.{le-leb}
use Rattle.std.specs.Prelude.{Ok, Err}
use Rattle.types.specs.declared.refusal.Refusal.{Refusal}
use Rattle.types.specs.declared.refusal.Refusal.TheVariants as refusals
use Rattle.types.specs.Refusal.{number_of}
use Rattle.types.specs.Out.{Out}
use Rattle.types.specs.Arena.{Arena}
use Rattle.types.specs.Memory.{flat, padded, Holds}
use Rattle.types.specs.Reply.{Reply, reply, reply_of, rooted}
use Rattle.types.specs.declared.Counters.{Counters}
use Rattle.types.proofs.Tests.{both}
use Rattle.types.proofs.Growth.{ext_length}
use Rattle.types.proofs.Addresses.{Begins, length_heads, ext_flat, ext_heads, word_room, start_room}
use Rattle.types.proofs.Replies.{rooted_yes}
use Rattle.names.specs.Table.{Name}
use Rattle.node_store.specs.Intern.{has_room}
use Rattle.soundness.specs.Lent.{lent_to}
use Rattle.soundness.specs.Inner.Sides.{Side}
use Rattle.soundness.proofs.Sides.{side_to}
use Rattle.recursion.proofs.Answers.{ok_err}
use Rattle.equal.specs.Reply.{equal_reply}
use Rattle.importing.specs.Import.{number_in, lacks, import_node, import_from_arena}
use Rattle.importing.proofs.Lacks.{lacks_exactly}
use Rattle.importing.proofs.Tables.{numbers_by_text}
use Rattle.import.specs.Import.{import_reply}
use Rattle.lang_ty.specs.Numbered.{Numbered, refusal, Imported, numbered, twelve, answer_of}
use Rattle.lang_ty.specs.Theorems.{ImportEqual, ImportKept, ImportKeeps, ImportThere, ImportAgain, NameLacking, TwelveExactly}
use Rattle.lang_ty.proofs.Numbers.{refusal_low, reply_numbered}
use Rattle.lang_ty.proofs.Copies.{lent_cases, rooted_cases, reply_not, Left, left_so, left_held, told_equal, one_tree}
use Rattle.lang_ty.proofs.ImportedTrees.{complete_numbered, Ran, runs, is_there}

-- ---- memory has room for the arena that it holds
pub roomy : {table : ℕ} {w s : List ℕ} {c : Counters} {a : Arena} → Holds table w s c a → has_room (length w) (length s) a ≡ true
unfolding has_room
roomy {w = w} {s = s} {a = a} H = both (le-leb (length (flat a)) (length w) (omega (arith, word_room H, H.total))) (le-leb (length a) (length s) (omega (arith, start_room H, H.nodes)))

-- ---- what a grown arena has in use begins with what it had
begun : (n : ℕ) {whole part : List ℕ} → Begins whole part → take (length part) (padded n whole) ≡ part
begun n {whole} {part} B =
    ap (λ (l : List ℕ). take (length part) (l ++ replicate (n - length whole) 0)) B.is
    ∙ ap (take (length part)) (append_assoc part B.rest (replicate (n - length whole) 0))
    ∙ take_at part (B.rest ++ replicate (n - length whole) 0) _ refl

-- so what was in use stays
kept : (k n m : ℕ) {x y whole part : List ℕ} → k ≡ length part → y ≡ padded m whole → x ≡ padded n part → Begins whole part → take k y ≡ take k x
kept k n m {whole = whole} {part = part} l e f B = ap (take k) e ∙ ap (λ (i : ℕ). take i (padded m whole)) l ∙ begun m B ∙ sym (ap (take k) f ∙ ap (λ (i : ℕ). take i (padded n part)) l ∙ take_at part _ _ refl)

-- ---- a call, with its source and its target
module _ (t w s : List ℕ) (c : Counters) (root : ℕ) (tt tw ts : List ℕ) (d : Counters) where
  -- what is done once names and arenas are known
  abbrev run : List Name → List Name → Arena → Arena → Out (ℕ × Arena)
  run ns ms b u = import_from_arena (number_in ns ms) (length tw) (length ts) u root b

  asked : Side t w s c → Side tt tw ts d → Out (ℕ × Arena)
  asked S T = run S.names T.names T.view S.view

  import_is : (S : Side t w s c) (T : Side tt tw ts d) → root < length S.view → import_reply t w s c root tt tw ts d ≡ reply_of tw ts d (asked S T)
  unfolding import_reply asked
  import_is S T l =
      ap (reply_of tw ts d) (sym (side_to S (λ (ns : List Name) (u : Arena). lent_to tt tw ts d (λ (ms : List Name) (b : Arena). rooted root (run ns ms b) u)))
      ∙ sym (side_to T (λ (ms : List Name) (b : Arena). rooted root (run S.names ms b) S.view))
      ∙ rooted_yes root (run S.names T.names T.view) S.view l)

  import_cases : (P : Reply ℕ → Type 0) → ((e : Refusal) → 0 < number_of e → number_of e ≤ 10 → P (reply (Err e) d tw ts)) → ((S : Side t w s c) (T : Side tt tw ts d) → root < length S.view → P (reply_of tw ts d (asked S T))) → P (import_reply t w s c root tt tw ts d)
  unfolding import_reply reply_of asked
  import_cases P refused answered =
      lent_cases (λ (o : Out (ℕ × Arena)). P (reply_of tw ts d o)) t w s c _ (refused refusals.BadTable (omega arith) (omega arith)) (refused refusals.UnsoundArena (omega arith) (omega arith)) (λ S.
      lent_cases (λ (o : Out (ℕ × Arena)). P (reply_of tw ts d o)) tt tw ts d _ (refused refusals.BadTable (omega arith) (omega arith)) (refused refusals.UnsoundArena (omega arith) (omega arith)) (λ T.
      rooted_cases (λ (o : Out (ℕ × Arena)). P (reply_of tw ts d o)) root (run S.names T.names T.view) S.view (refused refusals.NoSuchRoot (omega arith) (omega arith)) (λ l. answered S T l)))

  module _ (S : Side t w s c) (T : Side tt tw ts d) where
    abbrev lacking : Bool
    lacking = lacks (number_in S.names T.names) S.view root

    asked_lacking : lacking ≡ true → asked S T ≡ Err refusals.NameAbsent
    unfolding asked import_from_arena
    asked_lacking e = rw (import_from_arena, e)

    asked_complete : lacking ≡ false → asked S T ≡ import_node (number_in S.names T.names) (length tw) (length ts) S.view root T.view
    unfolding asked import_from_arena
    asked_complete e = rw (import_from_arena, e)

    asked_numbered : root < length S.view → lacking ≡ false → Numbered (asked S T)
    asked_numbered l e = subst Numbered (sym (asked_complete e)) (complete_numbered (number_in S.names T.names) (length tw) (length ts) (length S.names) S.view S.holds.good (suc root) root (omega arith) l e T.view)

  -- ---- 12
  pub import_numbered : Imported (answer_of (import_reply t w s c root tt tw ts d))
  unfolding reply_of
  import_numbered = import_cases (λ (y : Reply ℕ). Imported (answer_of y)) (λ e l m. numbered (refusal l m)) (λ S T l. go S T l (lacking S T) refl)
    where
      go : (S : Side t w s c) (T : Side tt tw ts d) → root < length S.view → (b : Bool) → lacking S T ≡ b → Imported (answer_of (reply_of tw ts d (asked S T)))
      go S T l true e = subst (λ (o : Out (ℕ × Arena)). Imported (answer_of (reply_of tw ts d o))) (sym (asked_lacking S T e)) twelve
      go S T l false e = numbered (reply_numbered tw ts d (asked_numbered S T l e))

  -- ---- a finished call
  record Ended (m : ℕ) (d' : Counters) (tw' ts' : List ℕ) : Type 0 where
    pub from : Side t w s c
    pub into : Side tt tw ts d
    pub inside : root < length from.view
    pub after : Arena
    pub ran : Ran t from.names from.is tt into.names into.is (length tw) (length ts) from.view from.holds.good root into.view m after
    pub holds : Holds (length into.names) tw' ts' d' after

  ended : {m : ℕ} {d' : Counters} {tw' ts' : List ℕ} → import_reply t w s c root tt tw ts d ≡ reply (Ok m) d' tw' ts' → Ended m d' tw' ts'
  ended {m} {d'} {tw'} {ts'} = import_cases (λ (y : Reply ℕ). y ≡ reply (Ok m) d' tw' ts' → Ended m d' tw' ts') (λ n i k e. absurd (reply_not e)) (λ S T l e. go S T l (left_so tw ts d (asked S T) e) (lacking S T) refl)
    where
      go : (S : Side t w s c) (T : Side tt tw ts d) → root < length S.view → Left (length tw) (length ts) (asked S T) m d' tw' ts' → (b : Bool) → lacking S T ≡ b → Ended m d' tw' ts'
      go S T l L true e = absurd (ok_err (sym (asked_lacking S T e) ∙ L.run))
      go S T l L false e =
          let R = runs t S.names S.is tt T.names T.is (length tw) (length ts) S.view S.holds.good T.holds.few_starts (suc root) root (omega arith) l e T.view m L.target T.holds.good (sym (asked_complete S T e) ∙ L.run) in
          record { from = S; into = T; inside = l; after = L.target; ran = R; holds = left_held L T.holds.few_words T.holds.few_starts (R.room (roomy T.holds)) R.good }

  module _ (m : ℕ) (d' : Counters) (tw' ts' : List ℕ) (e : import_reply t w s c root tt tw ts d ≡ reply (Ok m) d' tw' ts') where
    equal_so : equal_reply t w s c root tt tw' ts' d' m ≡ Ok true
    equal_so =
        let E = ended e in
        told_equal E.from (record { names = E.into.names; is = E.into.is; view = E.after; holds = E.holds }) root m E.inside E.ran.inside (sym E.ran.same)

    kept_so : ImportKept tt tw ts d d' tw' ts'
    kept_so =
        let E = ended e in
        let H = E.into.holds in
        let K = E.holds in
        let W = ext_flat E.ran.ext in
        let X = ext_heads E.ran.ext in
        record {
          words = kept d.words (length tw) (length tw') H.total K.words H.words W;
          starts = kept d.nodes (length ts) (length ts') (H.nodes ∙ sym (length_heads E.into.view)) K.starts H.starts X;
          more_words = omega (arith, H.total, K.total, ap length W.is, length-append (flat E.into.view) W.rest);
          more_nodes = omega (arith, H.nodes, K.nodes, ext_length E.into.view E.after E.ran.ext);
          names = E.into.names;
          is = E.into.is;
          before = E.into.view;
          held_before = H;
          after = E.after;
          held_after = K;
          grown = E.ran.ext;
        }

  -- ---- a type that is there
  abbrev Found : ℕ → Type 0
  Found k = import_reply t w s c root tt tw ts d ≡ reply (Ok k) d tw ts

  there_so : (k : ℕ) → equal_reply t w s c root tt tw ts d k ≡ Ok true → Found k
  unfolding reply_of
  there_so k e =
      let O = one_tree t w s c root tt tw ts d k e in
      let S = O.left in
      let T = O.right in
      let l = O.left_inside in
      let H = T.holds in
      let few : length T.view ≤ 4096 = omega (arith, start_room H, H.nodes, H.few_starts) in
      let I = is_there t S.names S.is tt T.names T.is (length tw) (length ts) S.view S.holds.good T.view H.good few (suc root) root (omega arith) l k O.right_inside O.same in
      import_is S T l ∙ ap (reply_of tw ts d) (asked_complete S T I.0 ∙ I.1)
      ∙ (λ z. reply (Ok k) (record { nodes = sym H.nodes z; words = sym H.total z }) (sym H.words z) (sym H.starts z))

  -- ---- 12 exactly
  module _ (S : Side t w s c) (T : Side tt tw ts d) (l : root < length S.view) where
    exactly : (lacking S T ≡ true) ↔ NameLacking S.names T.names S.view root
    exactly = (
      (λ e.
          let L = (lacks_exactly (number_in S.names T.names) (length S.names) S.view S.holds.good root l).0 e in
          record { node = L.node; reachable = L.reachable; name = L.name; carried = L.carried; lacked = λ p h x. (numbers_by_text S.names tt T.names T.is L.name).no_number.0 L.lacked p (record { there = h; text = x }) }),
      (λ N.
          (lacks_exactly (number_in S.names T.names) (length S.names) S.view S.holds.good root l).1
          (record { node = N.node; reachable = N.reachable; name = N.name; carried = N.carried; lacked = (numbers_by_text S.names tt T.names T.is N.name).no_number.1 (λ p I. N.lacked p I.there I.text) })),
    )

    twelve_so : (import_reply t w s c root tt tw ts d ≡ reply (Err refusals.NameAbsent) d tw ts) ↔ NameLacking S.names T.names S.view root
    unfolding reply_of
    twelve_so = (
      (λ e. exactly.0 (go (sym (import_is S T l) ∙ e) (lacking S T) refl)),
      (λ N. import_is S T l ∙ ap (reply_of tw ts d) (asked_lacking S T (exactly.1 N))),
    )
      where
        go : reply_of tw ts d (asked S T) ≡ reply (Err refusals.NameAbsent) d tw ts → (b : Bool) → lacking S T ≡ b → b ≡ true
        go e true q = refl
        go e false q =
            let M = refusal_low (subst (λ (y : Reply ℕ). Numbered (answer_of y)) e (reply_numbered tw ts d (asked_numbered S T l q))) in
            absurd (omega (arith, M))

-- ---- the theorems
pub import_equal : ImportEqual
import_equal = equal_so

pub import_keeps : ImportKeeps
import_keeps = kept_so

pub import_there : ImportThere
import_there = there_so

-- what was imported is there
pub import_again : ImportAgain
import_again t w s c root tt tw ts d m d' tw' ts' e = import_there t w s c root tt tw' ts' d' m (import_equal t w s c root tt tw ts d m d' tw' ts' e)

pub twelve_exactly : TwelveExactly
twelve_exactly t w s c root tt tw ts d ns ms u b p H q K l = twelve_so t w s c root tt tw ts d (record { names = ns; is = p; view = u; holds = H }) (record { names = ms; is = q; view = b; holds = K }) l
