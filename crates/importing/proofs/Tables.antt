-- Two tables, by the texts of their names: the number that a name has in the other table is that of the same text, and such numbers stand as the names do.
use Prim.Native.Nat.{ℕ, zero, suc, ◌<◌}
use mathlib.Core.Path.{◌≡◌, refl, sym, ap, ap₂, ◌∙◌, subst}
use mathlib.Core.Bool.{Bool, true, false}
use mathlib.Core.List.{List, []}
use mathlib.Core.Option.{Option, none, some}
use native.Mathlib.Omega.{arith}
use lib.ListN.{length, get_or, get_or-eq_default}
use lib.Dec.{ltb}
use borrow.Author.Tests.{ltb-true, ltb-false}
use Rattle.std.specs.Prelude.{Ok}
use Rattle.types.specs.Out.{Out, required}
use Rattle.types.proofs.Orders.{order_less, order_lt}
use Rattle.names.specs.Table.{Name, name_order, names_of}
use Rattle.names.proofs.Numbers.{names_few, names_good, number_order}
use Rattle.name_lookup.specs.Lookup.{position, find_reply}
use Rattle.name_lookup.specs.Theorems.{IsName}
use Rattle.name_lookup.specs.declared.Position.{Position}
use Rattle.name_lookup.proofs.Replies.{reply_of}
use Rattle.name_lookup.proofs.Positions.{finds_exactly}
use Rattle.name_matching.specs.Inner.{Matches}
use Rattle.importing.specs.Import.{number_in}
use Rattle.importing.specs.Theorems.{NumbersByText}
use Rattle.importing.specs.Inner.Names.{entry, by_map, Numbering}

pub none_some : {p : ℕ} → ◌≡◌ {A = Option ℕ} none (some p) → ⊥
none_some e = let z : ◌≡◌ {A = ℕ} 0 1 = cc in omega arith

-- ---- a name's number in the other table
module _ (ns : List Name) (u : List ℕ) (ms : List Name) (e : names_of u ≡ some ms) (k : ℕ) where
  -- by what is told of the text
  number_is : {b : Bool} → (position ms (get_or ns k [])).found ≡ b → number_in ns ms k ≡ elim b [ true ↦ some (position ms (get_or ns k [])).place | false ↦ none ]
  unfolding number_in
  number_is f = ap (λ (c : Bool). elim c [ true ↦ some (position ms (get_or ns k [])).place | false ↦ none ]) f

  told : find_reply u (get_or ns k []) ≡ Ok (position ms (get_or ns k []))
  unfolding required
  told = reply_of u (get_or ns k []) e

  pub number_of : (p : ℕ) → IsName ms (get_or ns k []) p → number_in ns ms k ≡ some p
  number_of p I =
      let q : Ok (position ms (get_or ns k [])) ≡ Ok (record { found = true; place = p }) = sym told ∙ (finds_exactly u ms e (get_or ns k [])).finds p I in
      let r : position ms (get_or ns k []) ≡ record { found = true; place = p } = cc in
      number_is (ap (λ (o : Position). o.found) r) ∙ ap (λ (o : Position). some o.place) r

  -- it is that of the text, or there is none
  pub data Told : Type 0 where
    has : (p : ℕ) → IsName ms (get_or ns k []) p → number_in ns ms k ≡ some p → Told
    lacks : number_in ns ms k ≡ none → Told

  pub number_told : Told
  number_told = go (position ms (get_or ns k [])).found refl
    where
      go : (b : Bool) → (position ms (get_or ns k [])).found ≡ b → Told
      go true f =
          let p = (position ms (get_or ns k [])).place in
          let q : position ms (get_or ns k []) ≡ record { found = true; place = p } = λ i. record { found = f i; place = p } in
          has p ((finds_exactly u ms e (get_or ns k [])).found p (told ∙ ap {B = Out Position} Ok q)) (number_is f)
      go false f = lacks (number_is f)

  pub number_text : (p : ℕ) → number_in ns ms k ≡ some p → IsName ms (get_or ns k []) p
  number_text p q = go number_told
    where
      go : Told → IsName ms (get_or ns k []) p
      go (has j I r) = let i : j ≡ p = cc in rw i at I
      go (lacks r) = absurd (none_some (sym r ∙ q))

pub numbers_by_text : NumbersByText
numbers_by_text ns u ms e k = record {
  some_number = λ p. (number_text ns u ms e k p, number_of ns u ms e k p);
  no_number = ((λ q p I. none_some (sym q ∙ number_of ns u ms e k p I)), (λ f. absent f (number_told ns u ms e k)));
}
  where
    absent : ((p : ℕ) → IsName ms (get_or ns k []) p → ⊥) → Told ns u ms e k → number_in ns ms k ≡ none
    absent f (has p I q) = absurd (f p I)
    absent f (lacks q) = q

-- ---- two tables
module _ (t : List ℕ) (ns : List Name) (d : names_of t ≡ some ns) (u : List ℕ) (ms : List Name) (e : names_of u ≡ some ms) where
  -- past the names of the source there is no number, since no name is the empty text
  pub number_inside : (k p : ℕ) → number_in ns ms k ≡ some p → k < length ns
  number_inside k p q = go (ltb k (length ns)) refl
    where
      go : (b : Bool) → ltb k (length ns) ≡ b → k < length ns
      go true f = ltb-true k (length ns) f
      go false f =
          let I = number_text ns u ms e k p q in
          let z : length (get_or ms p []) ≡ 0 = ap length (I.text ∙ get_or-eq_default ns [] (ltb-false k (length ns) f)) in
          absurd (omega (arith, z, (names_good u ms e p I.there).some_byte))

  pub tables_numbering : Numbering (number_in ns ms) (length ms)
  tables_numbering = record { few = names_few u ms e; low = λ k p q. (number_text ns u ms e k p q).there; rises = rises }
    where
      rises : (i j p q : ℕ) → i < j → number_in ns ms i ≡ some p → number_in ns ms j ≡ some q → p < q
      rises i j p q l f g =
          let I = number_text ns u ms e i p f in
          let J = number_text ns u ms e j q g in
          order_lt p q (sym (number_order u ms e p q I.there J.there) ∙ ap₂ name_order I.text J.text ∙ number_order t ns d i j (number_inside i p f) (number_inside j q g) ∙ order_less i j l)

  -- a map of the names with the same text has these numbers
  module _ {ks : List ℕ} (M : Matches ns ms ks) where
    entry_is : (k n : ℕ) → get_or ks k 0 ≡ n → number_in ns ms k ≡ entry n
    entry_is k zero q = go (number_told ns u ms e k)
      where
        go : Told ns u ms e k → number_in ns ms k ≡ none
        go (has p I r) = absurd (omega (arith, q, M.numbers k p (number_inside k p r) I.there (sym I.text)))
        go (lacks r) = r
    entry_is k (suc p) q = go (ltb k (length ns)) refl
      where
        go : (b : Bool) → ltb k (length ns) ≡ b → number_in ns ms k ≡ some p
        go true f =
            let l : p < length ms = omega (arith, q, M.most k) in
            number_of ns u ms e k p (record { there = l; text = sym (M.texts k p (ltb-true k (length ns) f) l (omega (arith, q))) })
        go false f = absurd (omega (arith, q, M.none k (ltb-false k (length ns) f)))

    pub map_is : by_map ks ≡ number_in ns ms
    map_is = λ i k. sym (entry_is k (get_or ks k 0) refl) i

    pub map_numbering : Numbering (by_map ks) (length ms)
    map_numbering = subst (λ (f : ℕ → Option ℕ). Numbering f (length ms)) (sym map_is) tables_numbering
