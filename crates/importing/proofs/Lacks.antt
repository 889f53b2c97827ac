-- `lacks` with places: it is true exactly where a path of children leads to a node with a name that has no number. And by the test `reaches`, for the program.
use Prim.Native.Nat.{ℕ, zero, suc, ◌<◌}
use mathlib.Core.Path.{◌≡◌, refl, sym, ap, ◌∙◌}
use mathlib.Core.Bool.{Bool, true, false, ◌||◌}
use mathlib.Core.List.Memᴰ.{head}
use mathlib.Core.List.Memᴰ.{tail}
use mathlib.Core.List.{List, [], ◌∷◌, map, Memᴰ as Mem}
use mathlib.Core.Option.{Option, none, some}
use native.Mathlib.Omega.{arith}
use lib.ListN.{length, get_or}
use Rattle.types.specs.Node.{Polarity, positive, tag, children, names}
use Rattle.types.specs.Arena.{Arena, at, sound, absent}
use Rattle.types.specs.Places.{child_sign, Place, self, down, Reachable}
use Rattle.types.proofs.Tests.{true_false}
use Rattle.types.proofs.Sound.{child_lower}
use Rattle.walks.specs.Reach.{some_of}
use Rattle.walks.proofs.Reaching.{some_in, in_some, or_right}
use Rattle.walks.proofs.Counting.{or_left}
use Rattle.importing.specs.Import.{lacks_one, lacks}
use Rattle.importing.specs.Theorems.{LacksExactly}
use Rattle.importing.proofs.Caching.{lacks_at}

-- ---- names of one node
module _ (f : ℕ → Option ℕ) where
  -- a name of these that has no number
  pub record Lacked (ks : List ℕ) : Type 0 where
    pub name : ℕ
    pub carried : Mem name ks
    pub lacked : f name ≡ none

  nothing : (o : Option ℕ) → absent o ≡ true → o ≡ none
  nothing none e = refl
  nothing (some p) e = absurd (true_false (sym e))

  pub lacked : (ks : List ℕ) → lacks_one f ks ≡ true → Lacked ks
  unfolding lacks_one
  lacked [] e = absurd (true_false (sym e))
  lacked (k ∷ ks) e = go (absent (f k)) refl e (lacked ks)
    where
      go : (b : Bool) → absent (f k) ≡ b → (b || lacks_one f ks) ≡ true → (lacks_one f ks ≡ true → Lacked ks) → Lacked (k ∷ ks)
      go true q x h = record { name = k; carried = head refl; lacked = nothing (f k) q }
      go false q x h = let L = h x in record { name = L.name; carried = tail L.carried; lacked = L.lacked }

  pub lacking_one : {k : ℕ} {ks : List ℕ} → Mem k ks → f k ≡ none → lacks_one f ks ≡ true
  unfolding lacks_one
  lacking_one {k = k} {ks = []} x5 e = elim x5 [ ]
  lacking_one {ks = j ∷ ks} (head p) e = or_left (absent (f j)) (lacks_one f ks) (ap (λ (i : ℕ). absent (f i)) (sym p) ∙ ap absent e)
  lacking_one {ks = j ∷ ks} (tail m) e = or_right (absent (f j)) (lacks_one f ks) (lacking_one m e)

  -- ---- nodes below one
  module _ (table : ℕ) (u : Arena) (g : sound table u ≡ true) where
    own : ℕ → Bool
    own n = lacks_one f (names (tag (at u n)))

    -- a node below n that lacks one of its own
    record Found (n : ℕ) (s : Polarity) : Type 0 where
      pub node : ℕ
      pub inside : node < length u
      pub sign : Polarity
      pub place : Place u n s node sign
      pub lacks_own : own node ≡ true

    found : (m n : ℕ) → n < m → n < length u → lacks f u n ≡ true → (s : Polarity) → Found n s
    unfolding own
    found zero n k l e s = absurd (omega arith)
    found (suc m) n k l e s = go (own n) refl (sym (lacks_at f table u g n l) ∙ e) (found m)
      where
        go : (b : Bool) → own n ≡ b → (b || some_of (map (lacks f u) (children (at u n)))) ≡ true → ((c : ℕ) → c < m → c < length u → lacks f u c ≡ true → (s : Polarity) → Found c s) → Found n s
        go true q x h = record { node = n; inside = l; sign = s; place = self; lacks_own = q }
        go false q x h =
            let S = some_in (lacks f u) (children (at u n)) x in
            let low = child_lower table u g n l S.index S.inside in
            let V' = h (get_or (children (at u n)) S.index 0) (omega (arith, low, k)) (omega (arith, low, l)) S.passes (child_sign (tag (at u n)) S.index s) in
            record { node = V'.node; inside = V'.inside; sign = V'.sign; place = down S.index S.inside V'.place; lacks_own = V'.lacks_own }

    pub lacks_below : {n v : ℕ} {s p : Polarity} → Place u n s v p → n < length u → lacks_one f (names (tag (at u v))) ≡ true → lacks f u n ≡ true
    lacks_below (self {n = n}) l e = lacks_at f table u g n l ∙ or_left (lacks_one f (names (tag (at u n)))) _ e
    lacks_below (down {n = n} i k r) l e =
        let low = child_lower table u g n l i k in
        lacks_at f table u g n l ∙ or_right (lacks_one f (names (tag (at u n)))) _ (in_some (lacks f u) (children (at u n)) i k (lacks_below r (omega (arith, low, l)) e))

    -- a reachable node that lacks one
    pub record Reached (root : ℕ) : Type 0 where
      pub node : ℕ
      pub inside : node < length u
      pub reachable : Reachable u root node
      pub lacks_own : lacks_one f (names (tag (at u node))) ≡ true

    pub lacks_reached : (root : ℕ) → root < length u → lacks f u root ≡ true → Reached root
    unfolding own
    lacks_reached root l e = let F = found (suc root) root (omega arith) l e positive in record { node = F.node; inside = F.inside; reachable = record { sign = F.sign; place = F.place }; lacks_own = F.lacks_own }

pub lacks_exactly : LacksExactly
lacks_exactly f table u g root l = (
  (λ e. let R = lacks_reached f table u g root l e in let L = lacked f (names (tag (at u R.node))) R.lacks_own in record { node = R.node; reachable = R.reachable; name = L.name; carried = L.carried; lacked = L.lacked }),
  (λ L. lacks_below f table u g L.reachable.place l (lacking_one f L.carried L.lacked)),
)
