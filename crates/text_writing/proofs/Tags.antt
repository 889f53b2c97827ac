-- The tag that a node's words say, by the kind in their head; and a fact for all kinds but some.
use Prim.Native.Nat.{ℕ}
use mathlib.Core.Path.{◌≡◌, refl, sym, ap, ◌∙◌}
use mathlib.Core.List.{List, [], ◌∷◌}
use mathlib.Core.Option.{Option}
use native.Mathlib.Omega.{arith}
use lib.ListN.{get_or, drop}
use Rattle.words.specs.Words.{head_kind, head_open, head_dynamic}
use Rattle.words.specs.declared.Layout.TheVariants as layout
use Rattle.types.specs.Kind as kinds
use Rattle.types.specs.Kind.{Kind, disc, kind_of}
use Rattle.types.specs.Node.{Tag, Node, tag, kind, tag_of, tag_of_in, guess_kind_in, guess, guess_in}
use Rattle.types.proofs.KindNumbers.{kind_of_disc}
use Rattle.types.proofs.Nodes.{guess_encode}
use Rattle.node_reading.proofs.NodeReads.{kind_encode}
use Rattle.text_writing.specs.Inner.Formed.{IsFormed}

-- the tag that words with a head of kind k say
abbrev pub said : Kind → List ℕ → Tag
said k ws = tag_of k (head_open (get_or ws 0 0)) (head_dynamic (get_or ws 0 0)) (drop 1 ws)

no_words : (k : Kind) → disc k ≡ 0 → tag (guess []) ≡ said k []
unfolding guess_in tag_of_in
no_words kinds.bottom e = refl
no_words kinds.top e = absurd (omega arith)
no_words kinds.primitive e = absurd (omega arith)
no_words kinds.ty_var e = absurd (omega arith)
no_words kinds.list e = absurd (omega arith)
no_words kinds.lambda e = absurd (omega arith)
no_words kinds.attr_set e = absurd (omega arith)
no_words kinds.union e = absurd (omega arith)
no_words kinds.intersection e = absurd (omega arith)
no_words kinds.named e = absurd (omega arith)
no_words kinds.neg e = absurd (omega arith)

pub tag_said : (k : Kind) (ws : List ℕ) {n : ℕ} → n ≡ head_kind (get_or ws 0 0) → n ≡ disc k → tag (guess ws) ≡ said k ws
unfolding guess_in head_kind
tag_said k ws e q = go ws (sym e ∙ q)
  where
    go : (ws : List ℕ) → head_kind (get_or ws 0 0) ≡ disc k → tag (guess ws) ≡ said k ws
    go [] p = no_words k (sym p)
    go (h ∷ b) p = ap (λ (o : Option Kind). tag (guess_kind_in layout.New o (head_open h) (head_dynamic h) b)) (ap kind_of p ∙ kind_of_disc k)

module _ {ws : List ℕ} (F : IsFormed ws) where
  pub formed_guess : guess ws ≡ F.view
  formed_guess = ap guess F.words ∙ guess_encode F.view F.good

  -- a formed node's words have the kind of the tag that they say
  pub kind_said : {n : ℕ} → n ≡ head_kind (get_or ws 0 0) → n ≡ disc (kind (tag (guess ws)))
  kind_said e =
      e ∙ ap (λ (l : List ℕ). head_kind (get_or l 0 0)) F.words ∙ kind_encode F.view F.good
      ∙ sym (ap (λ (x : Node). disc (kind (tag x))) formed_guess)
