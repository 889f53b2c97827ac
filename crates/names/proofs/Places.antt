-- Where each name begins: the names from number k on are those of the bytes from its place on, so that a list of places gives each name's text.
use Prim.Native.Nat.{ℕ, zero, suc, ◌+◌, ◌-◌, ◌<◌, ◌≤◌}
use mathlib.Core.Path.{◌≡◌, refl, sym, ap, ◌∙◌}
use mathlib.Core.Bool.{Bool, true, false}
use mathlib.Core.List.{List, []}
use native.Mathlib.Omega.{arith}
use native.Mathlib.Numerals.{add-one}
use lib.ListN.{length, get_or, set, drop, replicate, length-set, length-drop, length-replicate, get_or-replicate, drop_of_length-le, get_or-eq_default}
use lib.Seq.{drop-drop, get_or-set_same, get_or-set_other}
use lib.Dec.{ltb, eqb}
use borrow.Author.Tests.{ltb-true, ltb-false, eqb-true, eqb-false}
use Rattle.words.specs.declared.Layout.TheVariants as layout
use Rattle.types.proofs.Orders.{compared}
use Rattle.names.specs.Table.{Name, IsTable, split, name_text}
use Rattle.names.specs.Inner.{name_end, name_place, Listable, Unplaced, Places}
use Rattle.names.proofs.Tables.{split_nil, split_is}
use Rattle.names.proofs.Rules.{good_rules}
use Rattle.names.proofs.Walking.{part, entry, split_entry, first_after}

-- a table has few enough names and bytes
pub table_listable : {t : List ℕ} {ns : List Name} → IsTable t ns → Listable t
table_listable {ns = ns} T =
    let R = good_rules layout.New ns T.good in
    record { few_names = omega (arith, ap length (split_is T)); few_bytes = omega (arith, ap length T.bytes) }

-- no name has its place in a list of zeros
pub unplaced : {t : List ℕ} → Listable t → Unplaced t (replicate 4096 0)
unplaced L = record { listable = L; long = long; none = λ k. compared k 4096 (get_or-replicate 4096 k 0 0) (λ h. past k (omega arith)) (λ h. past k (omega arith)) }
  where
    long : length (replicate {A = ℕ} 4096 0) ≡ 4096
    long = length-replicate {A = ℕ} 4096 0

    past : (k : ℕ) → 4096 ≤ k → ◌≡◌ {A = ℕ} (get_or (replicate 4096 0) k 0) 0
    past k h = get_or-eq_default (replicate 4096 0) 0 {n = k} (omega (arith, long))

-- ---- the names from a place on
module _ (t : List ℕ) where
  past : (p : ℕ) → length t ≤ p → split (drop p t) ≡ []
  past p h = ap split (drop_of_length-le t h) ∙ split_nil

  end_past : (p : ℕ) → length t ≤ p → length t ≤ name_end t p
  unfolding name_end
  end_past p h = omega arith

  after_place : (p : ℕ) → drop 1 (split (drop p t)) ≡ split (drop (name_end t p) t)
  after_place p = go (ltb p (length t)) refl
    where
      go : (b : Bool) → ltb p (length t) ≡ b → drop 1 (split (drop p t)) ≡ split (drop (name_end t p) t)
      go true e = ap (drop 1) (split_entry t p (ltb-true p (length t) e) refl)
      go false e = let h = ltb-false p (length t) e in ap (drop 1) (past p h) ∙ sym (past (name_end t p) (end_past p h))

  from_place : (k : ℕ) → drop k (split t) ≡ split (drop (name_place t k) t)
  unfolding name_place
  from_place zero = refl
  from_place (suc k) =
      ap (λ (j : ℕ). drop j (split t)) (sym (add-one k)) ∙ sym (drop-drop 1 k (split t)) ∙ ap (drop 1) (from_place k) ∙ after_place (name_place t k)

  -- there is a name k exactly where its place is within the bytes
  name_in : (k : ℕ) → name_place t k < length t → k < length (split t)
  name_in k h = omega (arith, length-drop k (split t), ap length (from_place k ∙ split_entry t (name_place t k) h refl))

  name_out : (k : ℕ) → length t ≤ name_place t k → length (split t) ≤ k
  name_out k h = omega (arith, length-drop k (split t), ap length (from_place k ∙ past (name_place t k) h))

  -- the place behind it is that of the next
  place_next : (k : ℕ) → name_end t (name_place t k) ≡ name_place t (k + 1)
  unfolding name_place
  place_next k = ap (name_place t) (sym (add-one k))

-- ---- the list is made
pub record Placing (t ps : List ℕ) (at k : ℕ) : Type 0 where
  pub listable : Listable t
  pub long : length ps ≡ 4096
  pub here : at ≡ name_place t k
  pub few : k ≤ length (split t)
  pub there : (j : ℕ) → j < k → get_or ps j 0 ≡ suc (name_place t j)
  pub none : (j : ℕ) → k ≤ j → get_or ps j 0 ≡ 0

module _ {t ps : List ℕ} where
  pub placing_start : Unplaced t ps → Placing t ps 0 0
  unfolding name_place
  placing_start U = record {
    listable = U.listable;
    long = U.long;
    here = refl;
    few = omega arith;
    there = λ j h. absurd (omega arith);
    none = λ j h. U.none j;
  }

  module _ {at k : ℕ} (P : Placing t ps at k) where
    pub placing_end : length t ≤ at → Places t ps
    placing_end h =
        let l = name_out t k (rw P.here at h) in
        record { listable = P.listable; long = P.long; there = λ j i. P.there j (omega arith); none = λ j i. P.none j (omega (arith, P.few)) }

    module _ (h : at < length t) where
      in_table : k < length (split t)
      in_table = name_in t k (rw P.here at h)

      pub placing_room : k < 4096
      placing_room = omega (arith, in_table, P.listable.few_names)

      there_more : (j : ℕ) → j < k + 1 → get_or (set ps k (at + 1)) j 0 ≡ suc (name_place t j)
      there_more j i = go (eqb j k) refl
        where
          go : (b : Bool) → eqb j k ≡ b → get_or (set ps k (at + 1)) j 0 ≡ suc (name_place t j)
          go true e =
              let q = eqb-true j k e in
              let a : at + 1 ≡ suc (name_place t k) = omega (arith, P.here) in
              rw q (get_or-set_same ps k (at + 1) 0 (omega (arith, placing_room, P.long)) ∙ a)
          go false e = let f = eqb-false j k e in get_or-set_other ps k j (at + 1) 0 f ∙ P.there j (omega arith)

      pub placing_more : {e : ℕ} → e ≡ name_end t at → Placing t (set ps k (at + 1)) e (k + 1)
      placing_more p =
          record {
            listable = P.listable;
            long = length-set ps k (at + 1) ∙ P.long;
            here = p ∙ ap (name_end t) P.here ∙ place_next t k;
            few = omega (arith, in_table);
            there = there_more;
            none = λ j i. get_or-set_other ps k j (at + 1) 0 (λ q. omega arith) ∙ P.none j (omega arith);
          }

-- ---- the list is read
module _ {t ps : List ℕ} (P : Places t ps) where
  no_text : (k : ℕ) → length (split t) ≤ k → [] ≡ name_text t k
  unfolding name_text
  no_text k h = sym (get_or-eq_default (split t) [] h)

  pub text_past : (k : ℕ) → 4096 ≤ k → [] ≡ name_text t k
  text_past k h = no_text k (omega (arith, P.listable.few_names))

  module _ (k : ℕ) {s : ℕ} (p : s ≡ get_or ps k 0) where
    pub text_none : s ≡ 0 → [] ≡ name_text t k
    text_none z = let g : k < length (split t) → ⊥ = λ h. omega (arith, P.there k h) in no_text k (omega arith)

    module _ (f : s ≡ 0 → ⊥) where
      there : k < length (split t)
      there = let g : length (split t) ≤ k → ⊥ = λ h. f (p ∙ P.none k h) in omega arith

      start : s ≡ name_place t k + 1
      start = omega (arith, P.there k there)

      inside : name_place t k < length t
      inside = let g : length t ≤ name_place t k → ⊥ = λ h. omega (arith, there, name_out t k h) in omega arith

      module _ {e : ℕ} (q : e ≡ name_end t (s - 1)) where
        end : e ≡ name_end t (name_place t k)
        end = let a : s - 1 ≡ name_place t k = omega (arith, start) in q ∙ ap (name_end t) a

        pub text_low : s ≤ e
        text_low = omega (arith, start, (entry inside end).low)

        pub text_placed : part t s e ≡ name_text t k
        unfolding name_text
        text_placed = ap (λ (j : ℕ). part t j e) start ∙ sym (first_after k (split t) (from_place t k ∙ split_entry t (name_place t k) inside end))
