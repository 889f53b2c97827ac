-- The names of a sheet: one name test by test, and the bytes of all names read are their table.
use Prim.Native.Nat.{ℕ, zero, suc, ◌+◌, ◌<◌, ◌≤◌}
use mathlib.Core.Path.{◌≡◌, refl, sym, ap, ap₂, ◌∙◌, subst}
use mathlib.Core.Bool.{Bool, true, false, ◌&&◌}
use mathlib.Core.List.{List, [], ◌∷◌, ◌++◌, append_assoc, append-nil}
use native.Mathlib.Omega.{arith}
use lib.ListN.{length, take, drop, length-append, take-append-drop}
use lib.Dec.{leb}
use borrow.Author.Tests.{le-leb, lt-leb, leb-true, leb-false}
use Rattle.std.specs.Prelude.{Ok, Err}
use Rattle.types.specs.declared.refusal.Refusal.{Refusal}
use Rattle.types.specs.declared.refusal.Refusal.TheVariants as refusal
use Rattle.types.specs.Out.{Out, ◌>>=◌}
use Rattle.types.proofs.Tests.{and_true, both}
use Rattle.types.specs.Order.{is_less}
use Rattle.names.specs.Table.{Name, table, name_order, rising, good_name, all_good, may_follow}
use Rattle.names.proofs.Following.{follows_is}
use Rattle.sheet_reading.specs.Sheet.{value_after, number, several, last, name, names}
use Rattle.sheet_reading.proofs.Readers.{same_value, never_refused, several_yes, several_no, number_yes}

-- ---- one name
pub name_none : (previous : Name) → name previous [] ≡ Err refusal.MalformedSheet
unfolding name
name_none previous = refl

module _ (previous : Name) (b : ℕ) (u : List ℕ) where
  first_byte : number 1 (b ∷ u) ≡ Ok (b, u)
  unfolding value_after
  first_byte = number_yes 1 (b ∷ u) (omega arith) ∙ ap (λ (i : ℕ). Ok (i, u)) (omega arith)

  pub name_length : {v : Bool} → (leb 1 b && leb b 64) ≡ v → name previous (b ∷ u) ≡ elim v [
    | false ↦ Err refusal.BadTable
    | true ↦ several b u >>= λ (n : Name × List ℕ). elim (may_follow previous b n.0) as (λ _. Out (Name × List ℕ)) [ false ↦ Err refusal.BadTable | true ↦ Ok n ]
  ]
  unfolding name
  name_length e = rw (← e) (rw (name, first_byte))

  pub name_small : b < 1 → name previous (b ∷ u) ≡ Err refusal.BadTable
  name_small h = name_length {v = false} (rw (lt-leb 1 b h))

  pub name_large : 64 < b → name previous (b ∷ u) ≡ Err refusal.BadTable
  name_large h = name_length {v = false} (rw (le-leb 1 b (omega arith), lt-leb b 64 h))

  module _ (l : 1 ≤ b) (h : b ≤ 64) where
    fair : (leb 1 b && leb b 64) ≡ true
    fair = both (le-leb 1 b l) (le-leb b 64 h)

    pub name_cut : length u < b → name previous (b ∷ u) ≡ Err refusal.MalformedSheet
    unfolding ◌>>=◌
    name_cut m = name_length fair ∙ rw (several_no b u m)

    pub name_judged : b ≤ length u → {v : Bool} → may_follow previous b (take b u) ≡ v → name previous (b ∷ u) ≡ elim v [ false ↦ Err refusal.BadTable | true ↦ Ok (take b u, drop b u) ]
    unfolding ◌>>=◌
    name_judged m e = rw (← e) (name_length fair ∙ rw (several_yes b u m))

-- what it means that a name was read
pub record NameIs (previous : Name) (bs : List ℕ) (v : Name × List ℕ) : Type 0 where
  pub front : bs ≡ length v.0 ∷ v.0 ++ v.1
  pub good : good_name v.0 ≡ true
  pub rises : is_less (name_order previous v.0) ≡ true

pub name_is : (previous : Name) (bs : List ℕ) (v : Name × List ℕ) → name previous bs ≡ Ok v → NameIs previous bs v
name_is previous [] v e = absurd (never_refused e (name_none previous))
name_is previous (b ∷ u) v e = go (leb 1 b && leb b 64) refl
  where
    judged : 1 ≤ b → b ≤ 64 → b ≤ length u → (t : Bool) → may_follow previous b (take b u) ≡ t → NameIs previous (b ∷ u) v
    judged l h m false p = absurd (never_refused e (name_judged previous b u l h m p))
    judged l h m true p =
        let q : ◌≡◌ {A = Name × List ℕ} (take b u, drop b u) v = same_value (sym (name_judged previous b u l h m p) ∙ e) in
        let F = follows_is previous b (take b u) p in
        subst (NameIs previous (b ∷ u)) q (record { front = ap₂ ◌∷◌ F.whole (sym (take-append-drop b u)); good = F.good; rises = F.rises })

    sized : 1 ≤ b → b ≤ 64 → (t : Bool) → leb b (length u) ≡ t → NameIs previous (b ∷ u) v
    sized l h false p = absurd (never_refused e (name_cut previous b u l h (omega (arith, leb-false b (length u) p))))
    sized l h true p = judged l h (leb-true b (length u) p) (may_follow previous b (take b u)) refl

    go : (t : Bool) → (leb 1 b && leb b 64) ≡ t → NameIs previous (b ∷ u) v
    go false p = absurd (never_refused e (name_length previous b u p))
    go true p = let q = and_true (leb 1 b) (leb b 64) p in sized (leb-true 1 b q.0) (leb-true b 64 q.1) (leb b (length u)) refl

-- ---- one name more
pub last_more : (ns : List Name) (n : Name) → last (ns ++ (n ∷ [])) ≡ n
unfolding last
last_more [] n = refl
last_more (m ∷ []) n = refl
last_more (l ∷ m ∷ ns) n = last_more (m ∷ ns) n

table_more : (ns : List Name) (n : Name) → table (ns ++ (n ∷ [])) ≡ table ns ++ (length n ∷ n)
unfolding table
table_more [] n = ap (λ (l : List ℕ). length n ∷ l) (append-nil n)
table_more (m ∷ ns) n = ap (λ (l : List ℕ). length m ∷ m ++ l) (table_more ns n) ∙ ap (λ (l : List ℕ). length m ∷ l) (sym (append_assoc m (table ns) (length n ∷ n)))

good_more : (ns : List Name) (n : Name) → all_good ns ≡ true → good_name n ≡ true → all_good (ns ++ (n ∷ [])) ≡ true
unfolding all_good
good_more [] n g e = both e refl
good_more (m ∷ ns) n g e = let p = and_true (good_name m) (all_good ns) g in both p.0 (good_more ns n p.1 e)

rising_more : (ns : List Name) (n : Name) → rising ns ≡ true → is_less (name_order (last ns) n) ≡ true → rising (ns ++ (n ∷ [])) ≡ true
unfolding rising last
rising_more [] n r e = refl
rising_more (m ∷ []) n r e = both e refl
rising_more (l ∷ m ∷ ns) n r e = let p = and_true (is_less (name_order l m)) (rising (m ∷ ns)) r in both p.0 (rising_more (m ∷ ns) n p.1 e)

module _ (k : ℕ) (ns : List Name) (bs : List ℕ) where
  pub names_stop : {e : Refusal} → name (last ns) bs ≡ Err e → names (suc k) ns bs ≡ Err e
  unfolding names
  names_stop p = rw p

  pub names_next : {n : Name} {u : List ℕ} → name (last ns) bs ≡ Ok (n, u) → names (suc k) ns bs ≡ names k (ns ++ (n ∷ [])) u
  unfolding names
  names_next p = rw p

  record Step (v : List Name × List ℕ) : Type 0 where
    pub text : Name
    pub left : List ℕ
    pub is : name (last ns) bs ≡ Ok (text, left)
    pub next : names k (ns ++ (text ∷ [])) left ≡ Ok v

  step : (v : List Name × List ℕ) → names (suc k) ns bs ≡ Ok v → Step v
  step v e = go (name (last ns) bs) refl
    where
      go : (o : Out (Name × List ℕ)) → name (last ns) bs ≡ o → Step v
      go (Ok (n, u)) p = record { text = n; left = u; is = p; next = sym (names_next p) ∙ e }
      go (Err x) p = absurd (never_refused e (names_stop p))

-- ---- all names
pub record NamesAre (k : ℕ) (ns : List Name) (bs : List ℕ) (v : List Name × List ℕ) : Type 0 where
  pub front : table ns ++ bs ≡ table v.0 ++ v.1
  pub good : all_good v.0 ≡ true
  pub rises : rising v.0 ≡ true
  pub count : length v.0 ≡ length ns + k

pub names_are : (k : ℕ) (ns : List Name) (bs : List ℕ) (v : List Name × List ℕ) → all_good ns ≡ true → rising ns ≡ true → names k ns bs ≡ Ok v → NamesAre k ns bs v
unfolding names
names_are zero ns bs v g r e =
    let q : ◌≡◌ {A = List Name × List ℕ} (ns, bs) v = same_value e in
    subst (NamesAre zero ns bs) q (record { front = refl; good = g; rises = r; count = omega arith })
names_are (suc k) ns bs v g r e =
    let S = step k ns bs v e in
    let n = S.text in
    let I = name_is (last ns) bs (n, S.left) S.is in
    let N = names_are k (ns ++ (n ∷ [])) S.left v (good_more ns n g I.good) (rising_more ns n r I.rises) S.next in
    record {
      front = ap (λ (l : List ℕ). table ns ++ l) I.front ∙ sym (append_assoc (table ns) (length n ∷ n) S.left) ∙ ap (λ (l : List ℕ). l ++ S.left) (sym (table_more ns n)) ∙ N.front;
      good = N.good;
      rises = N.rises;
      count = omega (arith, N.count, length-append ns (n ∷ []));
    }
