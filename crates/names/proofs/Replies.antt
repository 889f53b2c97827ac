-- What a caller learns from the check of a table.
use Prim.Native.Nat.{ℕ}
use mathlib.Core.Path.{◌≡◌, refl, ap, ◌∙◌}
use mathlib.Core.List.{List}
use mathlib.Core.Option.{Option, none, some}
use native.Mathlib.Omega.{arith}
use lib.ListN.{length}
use Rattle.std.specs.Prelude.{Ok, Err}
use Rattle.types.specs.declared.refusal.Refusal.{Refusal}
use Rattle.types.specs.declared.refusal.Refusal.TheVariants as refusal
use Rattle.types.specs.Out.{required}
use Rattle.names.specs.Table.{Name, names_of}
use Rattle.names.specs.Reply.{table_reply}

pub reply_of : (t : List ℕ) {o : Option (List Name)} → names_of t ≡ o → table_reply t ≡ required refusal.BadTable o (λ (ns : List Name). Ok (length ns))
unfolding table_reply
reply_of t e = ap (λ (o : Option (List Name)). required refusal.BadTable o (λ (ns : List Name). Ok (length ns))) e

pub record Counted (t : List ℕ) (n : ℕ) : Type 0 where
  pub names : List Name
  pub is : names_of t ≡ some names
  pub count : n ≡ length names

pub record Faulty (t : List ℕ) (e : Refusal) : Type 0 where
  pub is : names_of t ≡ none
  pub refusal : e ≡ refusal.BadTable

module _ {t : List ℕ} where
  pub counted : {n : ℕ} → Ok n ≡ table_reply t → Counted t n
  unfolding required
  counted {n} e = go (names_of t) refl
    where
      go : (o : Option (List Name)) → names_of t ≡ o → Counted t n
      go none q = let a = e ∙ reply_of t q in let z : ◌≡◌ {A = ℕ} 0 1 = cc in absurd (omega arith)
      go (some ns) q = let a = e ∙ reply_of t q in record { names = ns; is = q; count = cc }

  pub faulty : {f : Refusal} → Err f ≡ table_reply t → Faulty t f
  unfolding required
  faulty {f} e = go (names_of t) refl
    where
      go : (o : Option (List Name)) → names_of t ≡ o → Faulty t f
      go none q = let a = e ∙ reply_of t q in record { is = q; refusal = cc }
      go (some ns) q = let a = e ∙ reply_of t q in let z : ◌≡◌ {A = ℕ} 0 1 = cc in absurd (omega arith)
