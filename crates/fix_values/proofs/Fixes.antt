-- The words of a fix and its values say the same: what is read is well, and its words are those that were read; and the words of good values are read value by value.
use Prim.Native.Nat.{ℕ, zero, suc, ◌+◌, ◌-◌, ◌^◌, ◌≤◌, ◌<◌}
use mathlib.Core.Path.{◌≡◌, refl, sym, ap, ◌∙◌}
use mathlib.Core.Bool.{Bool, true, false}
use mathlib.Core.List.{List, [], ◌∷◌, ◌++◌, append_assoc, append-nil}
use mathlib.Core.Option.{Option, none, some}
use native.Mathlib.Omega.{arith}
use lib.ListN.{length, get_or, take, drop, take-append-drop, length-append}
use lib.Seq.{take-append_seam, drop-append_seam}
use Rattle.words.specs.Words.{head_count}
use Rattle.types.proofs.Tests.{and_true, both, numbers_true}
use Rattle.fix_values.specs.Values.{Value, value, body, encode, well, guess, is_value}
use Rattle.fix_values.specs.Fix.{Fix, flat, good, read, fix_of}
use Rattle.fix_values.specs.Theorems.{FixEncode, FixDecode}
use Rattle.fix_values.proofs.ValueWords.{well_parts, head_reads, guess_encode, encode_value}

-- ---- one value of words that are read
-- words of a value are those of the value that they give
pub value_words : (table values : ℕ) (ws : List ℕ) → is_value table values ws ≡ true → (well table values (guess ws) ≡ true) × (ws ≡ encode (guess ws))
unfolding is_value
value_words table values ws e = let (p, q) = and_true (well table values (guess ws)) _ e in (p, numbers_true ws (encode (guess ws)) q)

-- and its head counts those behind it
pub value_length : (table values : ℕ) (ws : List ℕ) → is_value table values ws ≡ true → length ws ≡ suc (head_count (get_or ws 0 0))
unfolding encode
value_length table values ws e = let (p, q) = value_words table values ws e in ap length q ∙ sym (ap suc (ap (λ (y : List ℕ). head_count (get_or y 0 0)) q ∙ go (guess ws) p))
  where
    go : (x : Value) → well table values x ≡ true → head_count (get_or (encode x) 0 0) ≡ length (body x)
    go (value s cs) w = (head_reads table values s cs (well_parts table values s cs w)).count_back

-- ---- from words to values
pub record Reads (table : ℕ) (ws : List ℕ) (f g : Fix) : Type 0 where
  pub good_so : good table g ≡ true
  pub words : flat f ++ ws ≡ flat g

-- the next value is read, or nothing is
pub read_yes : (table k w : ℕ) (b : List ℕ) (f : Fix) → is_value table (length f) (w ∷ take (head_count w) b) ≡ true
    → read table (suc k) (w ∷ b) f ≡ read table k (drop (head_count w) b) (guess (w ∷ take (head_count w) b) ∷ f)
unfolding read
read_yes table k w b f e =
    λ i. elim (e i) as (λ _. Option Fix) [ true ↦ read table k (drop (head_count w) b) (guess (w ∷ take (head_count w) b) ∷ f) | false ↦ none ]

pub read_no : (table k w : ℕ) (b : List ℕ) (f : Fix) → is_value table (length f) (w ∷ take (head_count w) b) ≡ false → read table (suc k) (w ∷ b) f ≡ none
unfolding read
read_no table k w b f e =
    λ i. elim (e i) as (λ _. Option Fix) [ true ↦ read table k (drop (head_count w) b) (guess (w ∷ take (head_count w) b) ∷ f) | false ↦ none ]

-- one value more was read
read_more : (table w : ℕ) (b : List ℕ) (f g : Fix) → is_value table (length f) (w ∷ take (head_count w) b) ≡ true
    → Reads table (drop (head_count w) b) (guess (w ∷ take (head_count w) b) ∷ f) g → Reads table (w ∷ b) f g
unfolding flat
read_more table w b f g t R =
    let n = head_count w in
    let v = value_words table (length f) (w ∷ take n b) t in
    record {
      good_so = R.good_so;
      words =
          ap (λ (y : List ℕ). flat f ++ (w ∷ y)) (sym (take-append-drop n b))
          ∙ ap (λ (y : List ℕ). flat f ++ (y ++ drop n b)) v.1
          ∙ sym (append_assoc (flat f) (encode (guess (w ∷ take n b))) (drop n b))
          ∙ R.words;
    }

read_good : (table k : ℕ) (ws : List ℕ) (f g : Fix) → good table f ≡ true → read table k ws f ≡ some g → Reads table ws f g × (length g ≤ k + length f)
unfolding read good
read_good table zero [] f g h e =
    let q : f ≡ g = cc in
    (record { good_so = ap (good table) (sym q) ∙ h; words = append-nil (flat f) ∙ ap flat q }, omega (arith, ap length q))
read_good table zero (w ∷ b) f g h e = absurd (let z : ◌≡◌ {A = ℕ} 0 1 = cc in omega arith)
read_good table (suc k) [] f g h e =
    let q : f ≡ g = cc in
    (record { good_so = ap (good table) (sym q) ∙ h; words = append-nil (flat f) ∙ ap flat q }, omega (arith, ap length q))
read_good table (suc k) (w ∷ b) f g h e =
    go (is_value table (length f) (w ∷ take (head_count w) b)) refl (read_good table k (drop (head_count w) b) (guess (w ∷ take (head_count w) b) ∷ f) g)
  where
    go : (t : Bool) → is_value table (length f) (w ∷ take (head_count w) b) ≡ t
        → (good table (guess (w ∷ take (head_count w) b) ∷ f) ≡ true → read table k (drop (head_count w) b) (guess (w ∷ take (head_count w) b) ∷ f) ≡ some g
        → Reads table (drop (head_count w) b) (guess (w ∷ take (head_count w) b) ∷ f) g × (length g ≤ k + suc (length f)))
        → Reads table (w ∷ b) f g × (length g ≤ suc k + length f)
    go true t ih =
        let (R, l) = ih (both (value_words table (length f) (w ∷ take (head_count w) b) t).0 h) (sym (read_yes table k w b f t) ∙ e) in
        (read_more table w b f g t R, omega (arith, l))
    go false t ih = absurd (let z : ◌≡◌ {A = ℕ} 0 1 = cc (read_no table k w b f t) in omega arith)

some_words : (ws : List ℕ) (f : Fix) → ws ≡ flat f → 0 < length ws → 0 < length f
unfolding flat
some_words ws [] e l = absurd (omega (arith, ap length e))
some_words ws (x ∷ f) e l = omega arith

pub fix_decode : FixDecode
unfolding fix_of good flat
fix_decode table [] f e = absurd (let z : ◌≡◌ {A = ℕ} 0 1 = cc in omega arith)
fix_decode table (w ∷ b) f e =
    let (R, l) = read_good table 1024 (w ∷ b) [] f refl e in
    record { is_fix = record { some_value = some_words (w ∷ b) f R.words (omega arith); few = omega (arith, l); good_so = R.good_so }; words = R.words }

-- ---- the words of a value, first among others
module _ (table values : ℕ) (t : table ≤ 2 ^ 16) (v : values ≤ 2 ^ 12) (x : Value) (e : well table values x ≡ true) (rest : List ℕ) where
  -- its head counts the words behind it
  pub head_counts : head_count (get_or (encode x ++ rest) 0 0) ≡ length (body x)
  unfolding encode
  head_counts = go x e
    where
      go : (x : Value) → well table values x ≡ true → head_count (get_or (encode x ++ rest) 0 0) ≡ length (body x)
      go (value s cs) e = (head_reads table values s cs (well_parts table values s cs e)).count_back

  next_read : (k : ℕ) (f : Fix) → length f ≡ values → read table (suc k) (encode x ++ rest) f ≡ read table k rest (x ∷ f)
  unfolding encode
  next_read k f l =
      let own : take (head_count (head x)) (body x ++ rest) ≡ body x = ap (λ (n : ℕ). take n (body x ++ rest)) head_counts ∙ take-append_seam (body x) rest in
      let after : drop (head_count (head x)) (body x ++ rest) ≡ rest = ap (λ (n : ℕ). drop n (body x ++ rest)) head_counts ∙ drop-append_seam (body x) rest in
      let is : is_value table (length f) (head x ∷ take (head_count (head x)) (body x ++ rest)) ≡ true = (λ i. is_value table (l i) (head x ∷ own i)) ∙ encode_value table values t v x e in
      read_yes table k (head x) (body x ++ rest) f is ∙ (λ i. read table k (after i) (guess (head x ∷ own i) ∷ f)) ∙ ap (λ (y : Value). read table k rest (y ∷ f)) (back x e)
    where
      head : Value → ℕ
      head y = get_or (encode y) 0 0

      back : (x : Value) → well table values x ≡ true → guess (encode x) ≡ x
      back (value s cs) e = guess_encode table values t v s cs (well_parts table values s cs e)

-- ---- from values to words
read_flat : (table k : ℕ) → table ≤ 2 ^ 16 → k ≤ 1024 → (f : Fix) → good table f ≡ true → length f ≤ k → (rest : List ℕ) → read table k (flat f ++ rest) [] ≡ read table (k - length f) rest f
unfolding flat good
read_flat table k t s [] e l rest = let z : k ≡ k - 0 = omega arith in ap (λ (n : ℕ). read table n rest []) z
read_flat table k t s (x ∷ f) e l rest =
    let (p, q) = and_true (well table (length f) x) _ e in
    let n : k - length f ≡ suc (k - suc (length f)) = omega arith in
    ap (λ (ws : List ℕ). read table k ws []) (append_assoc (flat f) (encode x) rest)
    ∙ read_flat table k t s f q (omega arith) (encode x ++ rest)
    ∙ ap (λ (m : ℕ). read table m (encode x ++ rest) f) n
    ∙ next_read table (length f) t (omega arith) x p rest (k - suc (length f)) f refl

pub read_end : (table k : ℕ) (f : Fix) → read table k [] f ≡ some f
unfolding read
read_end table zero f = refl
read_end table (suc k) f = refl

pub fix_read : (table : ℕ) (ws : List ℕ) → 0 < length ws → fix_of table ws ≡ read table 1024 ws []
unfolding fix_of
fix_read table [] l = absurd (omega arith)
fix_read table (w ∷ b) l = refl

pub fix_encode : FixEncode
unfolding flat encode
fix_encode table t f F =
    fix_read table (flat f) (long f F.some_value)
    ∙ ap (λ (ws : List ℕ). read table 1024 ws []) (sym (append-nil (flat f)))
    ∙ read_flat table 1024 (omega arith) (omega arith) f F.good_so F.few []
    ∙ read_end table (1024 - length f) f
  where
    long : (f : Fix) → 0 < length f → 0 < length (flat f)
    long [] l = absurd (omega arith)
    long (x ∷ f) l = omega (arith, length-append (flat f) (encode x))
