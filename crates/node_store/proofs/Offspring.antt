-- The children that a node's words hold: none below kind 4, and from there on one in each body word.
use Prim.Native.Nat.{ℕ, ◌+◌, ◌-◌, ◌<◌, ◌≤◌}
use mathlib.Core.Path.{◌≡◌, refl, sym, ap, ◌∙◌}
use mathlib.Core.List.{List, [], ◌∷◌, map}
use mathlib.Core.Option.{Option, none, some}
use native.Mathlib.Omega.{arith}
use native.Mathlib.Decide.{dec_lt}
use lib.ListN.{length, get_or, take, drop, length-map, get_or-map}
use Rattle.words.specs.Words.{head_kind, child}
use Rattle.types.specs.Kind as kinds
use Rattle.types.specs.Kind.{Kind, disc, kind_of, body_of}
use Rattle.types.specs.Node.{children_of}
use Rattle.types.specs.Fault.{kind_children, children_in}
use Rattle.node_store.specs.Inner.Children.{ChildWords}
use Rattle.types.proofs.Lists.{body_lent}
use Rattle.node_faults.proofs.KindCases.{no_kind, is_kind}

low : (k : Kind) (b : List ℕ) → disc k < 4 → children_of (body_of k) b ≡ []
unfolding children_of
low kinds.bottom b h = refl
low kinds.top b h = refl
low kinds.primitive b h = refl
low kinds.ty_var b h = refl
low kinds.list b h = absurd (omega arith)
low kinds.lambda b h = absurd (omega arith)
low kinds.attr_set b h = absurd (omega arith)
low kinds.union b h = absurd (omega arith)
low kinds.intersection b h = absurd (omega arith)
low kinds.named b h = absurd (omega arith)
low kinds.neg b h = absurd (omega arith)

high : (k : Kind) (b : List ℕ) → 4 ≤ disc k → children_of (body_of k) b ≡ map child b
unfolding children_of
high kinds.bottom b h = absurd (omega arith)
high kinds.top b h = absurd (omega arith)
high kinds.primitive b h = absurd (omega arith)
high kinds.ty_var b h = absurd (omega arith)
high kinds.list b h = refl
high kinds.lambda b h = refl
high kinds.attr_set b h = refl
high kinds.union b h = refl
high kinds.intersection b h = refl
high kinds.named b h = refl
high kinds.neg b h = refl

module _ (h : ℕ) (b : List ℕ) where
  by_kind : (o : Option Kind) → kind_of (head_kind h) ≡ o → children_in (h ∷ b) ≡ kind_children o b
  unfolding children_in
  by_kind o e = ap (λ (x : Option Kind). kind_children x b) e

  in_low : head_kind h < 4 → children_in (h ∷ b) ≡ []
  in_low l = let I = is_kind (head_kind h) (omega arith) in by_kind (some I.kind) I.found ∙ low I.kind b (omega (arith, I.is))

  in_high : 4 ≤ head_kind h → head_kind h ≤ 10 → children_in (h ∷ b) ≡ map child b
  in_high l m = let I = is_kind (head_kind h) m in by_kind (some I.kind) I.found ∙ high I.kind b (omega (arith, I.is))

  in_none : 10 < head_kind h → children_in (h ∷ b) ≡ []
  in_none l = by_kind none (no_kind (head_kind h) l)

-- ---- the words that hold them
pub no_words : (ws : List ℕ) → length ws ≡ 0 → 0 ≡ length (children_in ws)
unfolding children_in
no_words [] e = refl
no_words (h ∷ b) e = absurd (omega arith)

pub empty_words : (ws : List ℕ) → length ws ≡ 0 → ChildWords ws ws
unfolding children_in
empty_words [] e = record { is = refl }
empty_words (h ∷ b) e = absurd (omega arith)

module _ {k : ℕ} (ws : List ℕ) (e : k ≡ head_kind (get_or ws 0 0)) (n : length ws ≡ 0 → ⊥) where
  pub few_kinds : k < 4 → ChildWords ws []
  few_kinds l = go ws e n
    where
      go : (ws : List ℕ) → k ≡ head_kind (get_or ws 0 0) → (length ws ≡ 0 → ⊥) → ChildWords ws []
      go [] e n = absurd (n refl)
      go (h ∷ b) e n = record { is = sym (in_low h b (omega arith)) }

  pub past_kinds : 10 < k → ChildWords ws []
  past_kinds l = go ws e n
    where
      go : (ws : List ℕ) → k ≡ head_kind (get_or ws 0 0) → (length ws ≡ 0 → ⊥) → ChildWords ws []
      go [] e n = absurd (n refl)
      go (h ∷ b) e n = record { is = sym (in_none h b (omega arith)) }

  pub all_words : 4 ≤ k → k ≤ 10 → ChildWords ws (take (length ws - 1) (drop 1 ws))
  all_words l m = go ws e n
    where
      go : (ws : List ℕ) → k ≡ head_kind (get_or ws 0 0) → (length ws ≡ 0 → ⊥) → ChildWords ws (take (length ws - 1) (drop 1 ws))
      go [] e n = absurd (n refl)
      go (h ∷ b) e n = record { is = ap (map child) (body_lent (h ∷ b)) ∙ sym (in_high h b (omega arith) (omega arith)) }

-- ---- as many, in their order
module _ {ws b : List ℕ} (B : ChildWords ws b) where
  pub as_many : length b ≡ length (children_in ws)
  as_many = sym (length-map b child) ∙ ap length B.is

  pub child_is : (i : ℕ) {m : ℕ} → m ≡ child (get_or b i 0) → m ≡ get_or (children_in ws) i 0
  unfolding child
  child_is i q = q ∙ sym (get_or-map child b i 0) ∙ ap (λ (d : List ℕ). get_or d i 0) B.is

some_child : (h : ℕ) (b : List ℕ) (i : ℕ) → i < length (children_in (h ∷ b)) → children_in (h ∷ b) ≡ map child b
some_child h b i l = go (dec_lt (head_kind h) 4) (dec_lt 10 (head_kind h))
  where
    go : Dec (head_kind h < 4) → Dec (10 < head_kind h) → children_in (h ∷ b) ≡ map child b
    go (yes p) q = absurd (omega (arith, ap length (in_low h b p)))
    go (no p) (yes q) = absurd (omega (arith, ap length (in_none h b q)))
    go (no p) (no q) = in_high h b (omega arith) (omega arith)

module _ (ws : List ℕ) (i : ℕ) (l : i < length (children_in ws)) where
  pub child_inside : i + 1 < length ws
  child_inside = go ws l
    where
      go : (ws : List ℕ) → i < length (children_in ws) → i + 1 < length ws
      go [] l = absurd (omega (arith, no_words [] refl))
      go (h ∷ b) l = omega (arith, ap length (some_child h b i l), length-map b child)

  pub child_small : get_or (children_in ws) i 0 < 4096
  unfolding child
  child_small = go ws l
    where
      go : (ws : List ℕ) → i < length (children_in ws) → get_or (children_in ws) i 0 < 4096
      go [] l = absurd (omega (arith, no_words [] refl))
      go (h ∷ b) l = let e : get_or (children_in (h ∷ b)) i 0 ≡ child (get_or b i 0) = ap (λ (d : List ℕ). get_or d i 0) (some_child h b i l) ∙ get_or-map child b i 0 in omega arith
