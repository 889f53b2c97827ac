-- A node visited at a sign: its words hold its children, and their signs are those of the definition.
use Prim.Native.Nat.{ℕ, ◌<◌}
use mathlib.Core.Path.{◌≡◌, sym, ap, ◌∙◌, subst}
use mathlib.Core.Bool.{Bool, true}
use mathlib.Core.List.{List}
use mathlib.Core.Logic.{◌⊎◌, inl, inr}
use native.Mathlib.Omega.{arith}
use lib.ListN.{length, get_or}
use Rattle.words.specs.Words.{head_kind}
use Rattle.types.specs.Node.{Polarity, tag, children, encode, encode_in, formed}
use Rattle.types.specs.Fault.{children_in}
use Rattle.types.specs.Arena.{Arena, at}
use Rattle.types.specs.Places.{child_sign}
use Rattle.types.specs.Memory.{Holds}
use Rattle.types.specs.declared.Counters.{Counters}
use Rattle.types.proofs.Nodes.{encode_kind}
use Rattle.types.proofs.Faults.{children_encode}
use Rattle.types.proofs.Sound.{at_formed}
use Rattle.types.proofs.Addresses.{start_room}
use Rattle.bits.specs.Bits.{has}
use Rattle.node_store.specs.Inner.Stored.{NodeAt}
use Rattle.walks.specs.Inner.Signs.{side, sign_of, turned, flag_after, WordChild, AddsSome, AddsWords, ChildOf, AddsAll, Marking}
use Rattle.walks.proofs.Additions.{flag_sign}

-- a child in the words of a formed node is a child of the node
module _ (a : Arena) (n : ℕ) (e : formed (at a n) ≡ true) (flag : Bool) where
  kids : children_in (encode (at a n)) ≡ children (at a n)
  kids = children_encode (at a n) e

  sign_is : (i : ℕ) → sign_of (flag_after flag (turned (head_kind (get_or (encode (at a n)) 0 0)) i)) ≡ child_sign (tag (at a n)) i (sign_of flag)
  unfolding encode_in
  sign_is i = ap (λ (k : ℕ). sign_of (flag_after flag (turned k i))) (encode_kind (at a n) e) ∙ flag_sign (tag (at a n)) i flag

  to_words : {t : Polarity} {u : ℕ} → ChildOf a n (sign_of flag) t u → WordChild (encode (at a n)) flag (length (children_in (encode (at a n)))) t u
  to_words C = record {
    index = C.index;
    early = subst (λ (l : List ℕ). C.index < length l) (sym kids) C.inside;
    sign = C.sign ∙ sym (sign_is C.index);
    is = C.is ∙ ap (λ (l : List ℕ). get_or l C.index 0) (sym kids);
  }

  from_words : {t : Polarity} {u : ℕ} → WordChild (encode (at a n)) flag (length (children_in (encode (at a n)))) t u → ChildOf a n (sign_of flag) t u
  from_words W = record {
    index = W.index;
    inside = subst (λ (l : List ℕ). W.index < length l) kids W.early;
    sign = W.sign ∙ sign_is W.index;
    is = W.is ∙ ap (λ (l : List ℕ). get_or l W.index 0) kids;
  }

module _ {w s : List ℕ} {c : Counters} {n : ℕ} where
  pub marking_small : {p q : List ℕ} → Marking w s c n p q → n < 4096
  marking_small M = let H = M.lent.holds in omega (arith, M.inside, start_room H, H.few_starts)

  formed_at : {table : ℕ} {a : Arena} → Holds table w s c a → n < c.nodes → formed (at a n) ≡ true
  formed_at {table} {a} H h = at_formed table a H.good n (omega (arith, H.nodes))

  pub children_added : {p q p' q' r : List ℕ} {flag : Bool} → Marking w s c n p q → NodeAt w s c n r → AddsWords r flag p q p' q' → AddsAll w s c n (sign_of flag) p q p' q'
  children_added {p} {q} {p'} {q'} {r} {flag} M N A = record {
    rows = A.is.rows;
    kept = A.is.kept;
    new = λ table a H t u C. (A' table a H).new t u (to_words a n (formed_at H M.inside) flag C);
    only = λ table a H t u h. back table a H ((A' table a H).only t u h);
  }
    where
      A' : (table : ℕ) (a : Arena) → Holds table w s c a → AddsSome (encode (at a n)) flag (length (children_in (encode (at a n)))) p q p' q'
      A' table a H = subst (λ (l : List ℕ). AddsSome l flag (length (children_in l)) p q p' q') (N.is table a H) A.is

      back : (table : ℕ) (a : Arena) (H : Holds table w s c a) {t : Polarity} {u : ℕ} → (has (side t p q) u ≡ true) ⊎ WordChild (encode (at a n)) flag (length (children_in (encode (at a n)))) t u → (has (side t p q) u ≡ true) ⊎ ChildOf a n (sign_of flag) t u
      back table a H (inl x) = inl x
      back table a H (inr W) = inr (from_words a n (formed_at H M.inside) flag W)
