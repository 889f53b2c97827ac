-- `decode` gives the node exactly where the words are its own and it may stand there, and else the first of 3, 4 and 5 that is true.
use Prim.Native.Nat.{ℕ}
use mathlib.Core.Path.{◌≡◌, refl, sym, ap, ◌∙◌}
use mathlib.Core.Bool.{Bool, true, false}
use mathlib.Core.List.{List}
use native.Mathlib.Omega.{arith}
use Rattle.words.specs.declared.Layout.{Layout}
use Rattle.words.specs.declared.Layout.TheVariants as layout
use Rattle.std.specs.Prelude.{Ok, Err}
use Rattle.types.specs.declared.refusal.Refusal.TheVariants as refusal
use Rattle.types.specs.Out.{Out, checked}
use Rattle.types.specs.Node.{Node, tag, names, encode_in, formed_in, linked, rising, well_in, well, guess_in, is_words_in, decode_in, decode, IsNodeIn}
use Rattle.types.specs.Theorems.{DecodeOk, OkDecode, DecodeThree, DecodeFour, DecodeFive}
use Rattle.types.proofs.Tests.{and_true, both, not_true, numbers_true, numbers_if}
use Rattle.types.proofs.Nodes.{guess_encode_in, formed_today}

-- what `decode` answers, test by test
unfoldable pub answer : Node → Bool → Bool → Bool → Out Node
answer x b l r = elim b [ false ↦ Err refusal.MalformedNode | true ↦ elim l [ false ↦ Err refusal.OutOfRange | true ↦ elim r [ false ↦ Err refusal.UnorderedFields | true ↦ Ok x ] ] ]

module _ (lay : Layout) where
  -- ---- the three parts of `well_in`
  pub record WellIn (table nodes : ℕ) (x : Node) : Type 0 where
    pub formed_so : formed_in lay x ≡ true
    pub linked_so : linked table nodes x ≡ true
    pub rising_so : rising (names (tag x)) ≡ true

  module _ (table nodes : ℕ) (x : Node) where
    pub well_parts_in : well_in lay table nodes x ≡ true → WellIn table nodes x
    unfolding well_in
    well_parts_in e =
        let p = and_true (formed_in lay x) _ e in
        let q = and_true (linked table nodes x) _ p.1 in
        record { formed_so = p.0; linked_so = q.0; rising_so = q.1 }

    pub parts_well_in : WellIn table nodes x → well_in lay table nodes x ≡ true
    unfolding well_in
    parts_well_in W = both W.formed_so (both W.linked_so W.rising_so)

  -- ---- words of a formed node
  pub is_words_yes_in : (ws : List ℕ) (x : Node) → formed_in lay x ≡ true → ws ≡ encode_in lay x → is_words_in lay ws x ≡ true
  unfolding is_words_in
  is_words_yes_in ws x e q = both e (numbers_if ws (encode_in lay x) q)

  pub words_is_in : (ws : List ℕ) (x : Node) → is_words_in lay ws x ≡ true → (formed_in lay x ≡ true) × (ws ≡ encode_in lay x)
  unfolding is_words_in
  words_is_in ws x e = let p = and_true (formed_in lay x) _ e in (p.0, numbers_true ws (encode_in lay x) p.1)

  pub guess_words_in : (ws : List ℕ) (x : Node) → formed_in lay x ≡ true → ws ≡ encode_in lay x → guess_in lay ws ≡ x
  guess_words_in ws x e q = ap (guess_in lay) q ∙ guess_encode_in lay x e

  -- ---- decode, case by case
  module _ (table nodes : ℕ) (ws : List ℕ) where
    pub by_guess_in : decode_in lay table nodes ws ≡ answer (guess_in lay ws) (is_words_in lay ws (guess_in lay ws)) (linked table nodes (guess_in lay ws)) (rising (names (tag (guess_in lay ws))))
    unfolding decode_in answer
    by_guess_in = refl

    by_node_in : (x : Node) → formed_in lay x ≡ true → ws ≡ encode_in lay x → decode_in lay table nodes ws ≡ answer x true (linked table nodes x) (rising (names (tag x)))
    by_node_in x e q =
        by_guess_in
        ∙ ap (λ (y : Node). answer y (is_words_in lay ws y) (linked table nodes y) (rising (names (tag y)))) (guess_words_in ws x e q)
        ∙ ap (λ (b : Bool). answer x b (linked table nodes x) (rising (names (tag x)))) (is_words_yes_in ws x e q)

  pub decode_three_in : DecodeThree lay
  unfolding answer
  decode_three_in table nodes ws f = by_guess_in table nodes ws ∙ rw (not_true (is_words_in lay ws (guess_in lay ws)) (λ e. let p = words_is_in ws (guess_in lay ws) e in f (guess_in lay ws) p.0 p.1))

  pub decode_four_in : DecodeFour lay
  unfolding answer
  decode_four_in table nodes ws x e q l = by_node_in table nodes ws x e q ∙ rw l

  pub decode_five_in : DecodeFive lay
  unfolding answer
  decode_five_in table nodes ws x e q l r = by_node_in table nodes ws x e q ∙ rw (l, r)

  -- decode after encode
  pub decode_ok_in : DecodeOk lay
  unfolding answer
  decode_ok_in table nodes ws x N = let W = well_parts_in table nodes x N.good in by_node_in table nodes ws x W.formed_so N.words ∙ rw (W.linked_so, W.rising_so)

  -- encode after decode
  pub ok_decode_in : OkDecode lay
  unfolding answer
  ok_decode_in table nodes ws x e = go (is_words_in lay ws (guess_in lay ws)) refl (linked table nodes (guess_in lay ws)) refl (rising (names (tag (guess_in lay ws)))) refl (sym (by_guess_in table nodes ws) ∙ e)
    where
      go : (b : Bool) → is_words_in lay ws (guess_in lay ws) ≡ b → (l : Bool) → linked table nodes (guess_in lay ws) ≡ l → (r : Bool) → rising (names (tag (guess_in lay ws))) ≡ r → answer (guess_in lay ws) b l r ≡ Ok x → IsNodeIn lay table nodes ws x
      go false p l q r s h = let z : ◌≡◌ {A = ℕ} 0 1 = cc in absurd (omega arith)
      go true p false q r s h = let z : ◌≡◌ {A = ℕ} 0 1 = cc in absurd (omega arith)
      go true p true q false s h = let z : ◌≡◌ {A = ℕ} 0 1 = cc in absurd (omega arith)
      go true p true q true s h =
          let g : guess_in lay ws ≡ x = cc in
          let w = words_is_in ws (guess_in lay ws) p in
          let W : WellIn table nodes (guess_in lay ws) = record { formed_so = w.0; linked_so = q; rising_so = s } in
          record { words = w.1 ∙ ap (encode_in lay) g; good = rw (← g) (parts_well_in table nodes (guess_in lay ws) W) }

  -- ---- decode by its refusal, none for a node
  pub record FaultlessIn (table nodes : ℕ) (ws : List ℕ) : Type 0 where
    pub node : Node
    pub is : IsNodeIn lay table nodes ws node

  pub faultless_in : (table nodes : ℕ) (ws : List ℕ) → checked (decode_in lay table nodes ws) ≡ Ok tt → FaultlessIn table nodes ws
  unfolding answer
  faultless_in table nodes ws e = go (is_words_in lay ws (guess_in lay ws)) refl (linked table nodes (guess_in lay ws)) refl (rising (names (tag (guess_in lay ws)))) refl (ap checked (sym (by_guess_in table nodes ws)) ∙ e)
    where
      go : (b : Bool) → is_words_in lay ws (guess_in lay ws) ≡ b → (l : Bool) → linked table nodes (guess_in lay ws) ≡ l → (r : Bool) → rising (names (tag (guess_in lay ws))) ≡ r → checked (answer (guess_in lay ws) b l r) ≡ Ok tt → FaultlessIn table nodes ws
      go false p l q r s h = let z : ◌≡◌ {A = ℕ} 0 1 = cc in absurd (omega arith)
      go true p false q r s h = let z : ◌≡◌ {A = ℕ} 0 1 = cc in absurd (omega arith)
      go true p true q false s h = let z : ◌≡◌ {A = ℕ} 0 1 = cc in absurd (omega arith)
      go true p true q true s h =
          let w = words_is_in ws (guess_in lay ws) p in
          record {
            node = guess_in lay ws;
            is = record { words = w.1; good = parts_well_in table nodes (guess_in lay ws) (record { formed_so = w.0; linked_so = q; rising_so = s }) };
          }

-- ---- the same of today's layout
abbrev pub Well : ℕ → ℕ → Node → Type 0
Well = WellIn layout.New

abbrev pub Faultless : ℕ → ℕ → List ℕ → Type 0
Faultless = FaultlessIn layout.New

module _ (table nodes : ℕ) where
  pub well_parts : (x : Node) → well table nodes x ≡ true → Well table nodes x
  well_parts = well_parts_in layout.New table nodes

  pub parts_well : (x : Node) → Well table nodes x → well table nodes x ≡ true
  parts_well = parts_well_in layout.New table nodes

  pub faultless : (ws : List ℕ) → checked (decode table nodes ws) ≡ Ok tt → Faultless table nodes ws
  faultless = faultless_in layout.New table nodes

pub decode_ok : DecodeOk layout.New
decode_ok = decode_ok_in layout.New

-- a node that may stand there in either layout may do so in today's
pub well_today : (l : Layout) (table nodes : ℕ) (x : Node) → well_in l table nodes x ≡ true → well table nodes x ≡ true
well_today l table nodes x e =
    let W = well_parts_in l table nodes x e in
    parts_well table nodes x (record { formed_so = formed_today l x W.formed_so; linked_so = W.linked_so; rising_so = W.rising_so })
