-- The field words of a set: the test of each, read off its fields, is that the words are made of the names and children that they hold, and that these are as they must be.
use Prim.Native.Nat.{ℕ, suc, ◌^◌, ◌≤◌, ◌<◌}
use mathlib.Core.Path.{◌≡◌, refl, sym, ap, ◌∙◌}
use mathlib.Core.Bool.{Bool, true, false, not, ◌&&◌}
use mathlib.Core.List.{List, [], ◌∷◌, map}
use lib.Dec.{eqb, ltb, leb}
use borrow.Author.Tests.{ltb-true, leb-true, eqb-true, lt-ltb, le-leb, eq-eqb, not-true}
use Rattle.words.specs.Words.{field_optional, field_name, field_zero, field_word, child}
use Rattle.words.specs.declared.Layout.TheVariants as layout
use Rattle.words.proofs.Words.{field_made, field_bounded, field_of_fields}
use Rattle.types.specs.Node.{field, child_words, child_words_in, below, rising}
use Rattle.types.proofs.Lists.{below_cons}
use Rattle.types.proofs.Nodes.{cons}
use Rattle.types.proofs.Tests.{and_true, both}
use Rattle.fix_values.specs.Inner.{field_good, fields_good}

-- the words made of the names and children that these hold
abbrev pub made : List ℕ → List ℕ
made b = child_words (map (field false) (map field_name b)) (map child b)

-- what the names, the children and the words of a set's fields must be
pub record Fields (table values : ℕ) (b : List ℕ) : Type 0 where
  pub words : b ≡ made b
  pub linked : below values (map child b) ≡ true
  pub named : below table (map field_name b) ≡ true
  pub rises : rising (map field_name b) ≡ true

-- is the first name, if there is one, this number or higher?
abbrev pub from : ℕ → List ℕ → Bool
from low [] = true
from low (w ∷ ws) = leb low (field_name w)

-- what the test of one field word says
record Good (table values low w : ℕ) : Type 0 where
  pub plain : field_optional w ≡ false
  pub zeros : field_zero w ≡ 0
  pub high : low ≤ field_name w
  pub named : field_name w < table
  pub linked : child w < values

good_field : (table values low w : ℕ) → field_good table values low w ≡ true → Good table values low w
unfolding field_good
good_field table values low w e =
    let (p, q) = and_true (not (field_optional w) && eqb (field_zero w) 0) _ e in
    let (o, z) = and_true (not (field_optional w)) _ p in
    let (n, l) = and_true (leb low (field_name w) && ltb (field_name w) table) _ q in
    let (h, t) = and_true (leb low (field_name w)) _ n in
    record { plain = not-true (field_optional w) o; zeros = eqb-true _ 0 z; high = leb-true low _ h; named = ltb-true _ table t; linked = ltb-true _ values l }

field_good_so : (table values low w : ℕ) → Good table values low w → field_good table values low w ≡ true
unfolding field_good
field_good_so table values low w G =
    both (both (ap not G.plain) (eq-eqb (field_zero w) 0 G.zeros)) (both (both (le-leb low (field_name w) G.high) (lt-ltb (field_name w) table G.named)) (lt-ltb (child w) values G.linked))

-- one word more
rising_more : (n : ℕ) (ws : List ℕ) → from (suc n) ws ≡ true → rising (map field_name ws) ≡ true → rising (n ∷ map field_name ws) ≡ true
unfolding rising
rising_more n [] f r = refl
rising_more n (w ∷ ws) f r = both (lt-ltb n (field_name w) (leb-true (suc n) (field_name w) f)) r

rising_rest : (n : ℕ) (ws : List ℕ) → rising (n ∷ map field_name ws) ≡ true → (from (suc n) ws ≡ true) × (rising (map field_name ws) ≡ true)
unfolding rising
rising_rest n [] r = (refl, refl)
rising_rest n (w ∷ ws) r = let (l, q) = and_true (ltb n (field_name w)) _ r in (le-leb (suc n) (field_name w) (ltb-true n (field_name w) l), q)

-- ---- from the tests to the words
pub fields_read : (table values low : ℕ) (b : List ℕ) → below (2 ^ 32) b ≡ true → fields_good table values low b ≡ true → Fields table values b × (from low b ≡ true)
unfolding fields_good child_words_in below rising
fields_read table values low [] k e = (record { words = refl; linked = refl; named = refl; rises = refl }, refl)
fields_read table values low (w ∷ ws) k e =
    let (p, q) = and_true (field_good table values low w) _ e in
    let G = good_field table values low w p in
    let (s, t) = below_cons (2 ^ 32) w ws k in
    let (F, f) = fields_read table values (suc (field_name w)) ws t q in
    let word : w ≡ field_word false (field_name w) (child w) = sym (ap (λ (o : Bool). field_word o (field_name w) (child w)) (sym G.plain) ∙ field_of_fields layout.New w s G.zeros) in (
      record {
        words = cons word F.words;
        linked = both (lt-ltb (child w) values G.linked) F.linked;
        named = both (lt-ltb (field_name w) table G.named) F.named;
        rises = rising_more (field_name w) ws f F.rises;
      },
      le-leb low (field_name w) G.high,
    )

-- ---- and back
head_eq : {x y : ℕ} {s t : List ℕ} → Path (List ℕ) (x ∷ s) (y ∷ t) → x ≡ y
head_eq e = cc

tail_eq : {x y : ℕ} {s t : List ℕ} → Path (List ℕ) (x ∷ s) (y ∷ t) → s ≡ t
tail_eq e = cc

pub fields_test : (table values low : ℕ) (b : List ℕ) → Fields table values b → from low b ≡ true → fields_good table values low b ≡ true
unfolding fields_good child_words_in below rising
fields_test table values low [] F f = refl
fields_test table values low (w ∷ ws) F f =
    let word : w ≡ field_word false (field_name w) (child w) = head_eq F.words in
    let M = field_made layout.New false (field_name w) (child w) (field_bounded layout.New w) in
    let (c, cs) = below_cons values (child w) (map child ws) F.linked in
    let (n, ns) = below_cons table (field_name w) (map field_name ws) F.named in
    let (g, r) = rising_rest (field_name w) ws F.rises in
    both (field_good_so table values low w (record {
      plain = ap field_optional word ∙ M.optional_back;
      zeros = ap field_zero word ∙ M.zero_back;
      high = leb-true low (field_name w) f;
      named = n;
      linked = c;
    })) (fields_test table values (suc (field_name w)) ws (record { words = tail_eq F.words; linked = cs; named = ns; rises = r }) g)
