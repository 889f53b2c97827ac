-- The children of a node put into the sets, one by one.
use Prim.Native.Nat.{ℕ, ◌+◌, ◌<◌, ◌≤◌}
use mathlib.Core.Path.{◌≡◌, sym, ap, ◌∙◌, subst}
use mathlib.Core.Bool.{Bool, true}
use mathlib.Core.List.{List}
use mathlib.Core.Logic.{◌⊎◌, inl, inr}
use native.Mathlib.Decide.{ℕ_discrete}
use native.Mathlib.Omega.{arith}
use lib.ListN.{length, get_or}
use Rattle.words.specs.Words.{head_kind, child}
use Rattle.types.specs.Node.{Polarity}
use Rattle.types.specs.Fault.{children_in}
use Rattle.bits.specs.Bits.{has}
use Rattle.walks.specs.Inner.Signs.{side, sign_of, turned, flag_after, Rows, Room, Adds, WordChild, AddsSome, AddsWords}
use Rattle.node_store.specs.Inner.Children.{ChildWords}
use Rattle.node_store.proofs.Offspring.{no_words, as_many, child_is, child_small}

-- i children are put in, of those that the body d holds
pub record Adding (ws : List ℕ) (flag : Bool) (kind : ℕ) (d p q p' q' : List ℕ) (i : ℕ) : Type 0 where
  pub kinded : kind ≡ head_kind (get_or ws 0 0)
  pub body : ChildWords ws d
  pub turn : i ≤ length d
  pub some : AddsSome ws flag i p q p' q'

module _ {ws : List ℕ} {flag : Bool} {p q : List ℕ} where
  none_yet : Rows p q → AddsSome ws flag 0 p q p q
  none_yet R = record { rows = R; kept = λ t u h. h; new = λ t u W. absurd (omega (arith, W.early)); only = λ t u h. inl h }

  pub adding_none : Rows p q → length ws ≡ 0 → AddsWords ws flag p q p q
  adding_none R e = record { is = subst (λ (k : ℕ). AddsSome ws flag k p q p q) (no_words ws e) (none_yet R) }

module _ {ws : List ℕ} {flag : Bool} {kind : ℕ} {d p q : List ℕ} where
  module _ {p' q' : List ℕ} {i : ℕ} (A : Adding ws flag kind d p q p' q' i) where
    inside : i < length d → i < length (children_in ws)
    inside h = omega (arith, as_many A.body)

    pub adding_room : {m : ℕ} → i < length d → m ≡ child (get_or d i 0) → Room p' q' m
    adding_room h e = record { rows = A.some.rows; small = omega (arith, child_is A.body i e, child_small ws i (inside h)) }

    pub adding_more : {b t : Bool} {m : ℕ} {p'' q'' : List ℕ} → i < length d → t ≡ turned kind i → b ≡ flag_after flag t → m ≡ child (get_or d i 0) → Adds p' q' (sign_of b) m p'' q'' → Adding ws flag kind d p q p'' q'' (i + 1)
    adding_more {b} {t} {m} {p''} {q''} h e f g D = record { kinded = A.kinded; body = A.body; turn = omega arith; some = record { rows = D.rows; kept = kept; new = new; only = only } }
      where
        sign : sign_of b ≡ sign_of (flag_after flag (turned (head_kind (get_or ws 0 0)) i))
        sign = ap sign_of (f ∙ ap (flag_after flag) (e ∙ ap (λ (k : ℕ). turned k i) A.kinded))

        kept : (t : Polarity) (u : ℕ) → has (side t p q) u ≡ true → has (side t p'' q'') u ≡ true
        kept t u x = D.kept t u (A.some.kept t u x)

        new : (t : Polarity) (u : ℕ) → WordChild ws flag (i + 1) t u → has (side t p'' q'') u ≡ true
        new t u W = go (ℕ_discrete W.index i)
          where
            go : Dec (W.index ≡ i) → has (side t p'' q'') u ≡ true
            go (yes r) =
                let a : t ≡ sign_of b = W.sign ∙ ap (λ (j : ℕ). sign_of (flag_after flag (turned (head_kind (get_or ws 0 0)) j))) r ∙ sym sign in
                let c : u ≡ m = W.is ∙ ap (λ (j : ℕ). get_or (children_in ws) j 0) r ∙ sym (child_is A.body i g) in
                (λ j. has (side (a j) p'' q'') (c j)) ∙ D.new
            go (no r) = D.kept t u (A.some.new t u (record { index = W.index; early = omega (arith, W.early); sign = W.sign; is = W.is }))

        wider : (t : Polarity) (u : ℕ) → (has (side t p q) u ≡ true) ⊎ WordChild ws flag i t u → (has (side t p q) u ≡ true) ⊎ WordChild ws flag (i + 1) t u
        wider t u (inl x) = inl x
        wider t u (inr W) = inr (record { index = W.index; early = omega (arith, W.early); sign = W.sign; is = W.is })

        only : (t : Polarity) (u : ℕ) → has (side t p'' q'') u ≡ true → (has (side t p q) u ≡ true) ⊎ WordChild ws flag (i + 1) t u
        only t u x = go (D.only t u x)
          where
            go : (has (side t p' q') u ≡ true) ⊎ ((t ≡ sign_of b) × (u ≡ m)) → (has (side t p q) u ≡ true) ⊎ WordChild ws flag (i + 1) t u
            go (inl y) = wider t u (A.some.only t u y)
            go (inr y) = inr (record { index = i; early = omega arith; sign = y.0 ∙ sign; is = y.1 ∙ child_is A.body i g })
