-- The variables that `list_free_type_vars` lists where they are lent; a refusal leaves what stood there.
use Prim.Native.Nat.{ℕ}
use mathlib.Core.Path.{◌≡◌, refl, ap, ◌∙◌}
use mathlib.Core.List.{List}
use Rattle.std.specs.Prelude.{Ok, Err}
use Rattle.types.specs.Refusal.{number_of}
use Rattle.types.specs.Out.{Out}
use Rattle.free_vars.specs.Inner.{Lists}
use Rattle.free_vars.specs.declared.VarList.{VarList}
use Rattle.lang_ty.specs.Told.{told, tell}

module _ {o : Out VarList} {vars vars' : List ℕ} {n count' : ℕ} (count : ℕ) where
  pub tell_list : (r : Out ℕ) → Lists o vars vars' r → told n count' ≡ tell count r → told n (record { vars = vars'; count = count' }) ≡ tell (record { vars = vars; count = count }) o
  tell_list (Ok k) L e =
      let p : n ≡ 0 = cc in
      let q : count' ≡ k = cc in
      (λ i. told (p i) (record { vars = vars'; count = q i })) ∙ ap (tell (record { vars = vars; count = count })) L.is
  tell_list (Err f) L e =
      let p : n ≡ number_of f = cc in
      let q : count' ≡ count = cc in
      (λ i. told (p i) (record { vars = L.kept f refl i; count = q i })) ∙ ap (tell (record { vars = vars; count = count })) L.is
