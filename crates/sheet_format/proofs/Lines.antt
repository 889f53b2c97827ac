-- A line is written piece by piece, and fits 65,544 bytes.
use Prim.Native.Nat.{ℕ, ◌+◌, ◌<◌, ◌≤◌}
use mathlib.Core.Path.{◌≡◌, refl, sym, ap, ◌∙◌, subst}
use mathlib.Core.List.{List, [], ◌∷◌, ◌++◌, append_assoc}
use native.Mathlib.Omega.{arith}
use lib.ListN.{length, take, drop, length-append}
use lib.Seq.{take-length, length-take-le}
use Rattle.std.specs.Prelude.{Ok, Err}
use Rattle.types.specs.declared.refusal.Refusal.{Refusal}
use Rattle.types.specs.Refusal.{number_of}
use Rattle.types.specs.Out.{Out}
use Rattle.types.proofs.Refusals.{number_few}
use Rattle.types.specs.Bytes.{bytes}
use Rattle.types.specs.Decimal.{decimal}
use Rattle.types.proofs.Decimals.{decimal_length}
use Rattle.appending.specs.Inner.{Writes}
use Rattle.appending.proofs.Appending.{writes_then}
use Rattle.sheet_format.specs.Line.{Outcome, type_line, refused_line, line_of, sheet_answer, sheet_line, sheet_line_in}
use Rattle.sheet_format.specs.Inner.{Gives, type, refused, AnswersSheet}
use Rattle.sheet_format.specs.Line.{WritesLine}
use Rattle.sheet_format.specs.declared.Answer.{Answer}
use Rattle.sheet_format.proofs.Digits.{few_digits}

-- ---- the pieces of a line
pub refusal_written : {b b₁ b₂ b' : List ℕ} {m n r : ℕ} (e : ℕ) → Writes b 0 (bytes "refused ") b₁ m → Writes b₁ m (decimal e) b₂ n → Writes b₂ n (10 ∷ []) b' r → Writes b 0 (refused_line e) b' r
unfolding refused_line
refusal_written e W₁ W₂ W₃ = writes_then (writes_then W₁ W₂) W₃

pub type_written : {b b₁ b₂ b₃ b' : List ℕ} {k m n r : ℕ} (root passes : ℕ) (text : List ℕ)
    → Writes b 0 (decimal root ++ bytes " ") b₁ k → Writes b₁ k (decimal passes ++ bytes " ") b₂ m → Writes b₂ m text b₃ n → Writes b₃ n (10 ∷ []) b' r
    → Writes b 0 (type_line root passes text) b' r
unfolding type_line
type_written {b} {b₂ = b₂} {m = m} root passes text W₁ W₂ W₃ W₄ =
    let W : Writes b 0 (decimal root ++ bytes " " ++ decimal passes ++ bytes " ") b₂ m
    = subst (λ (x : List ℕ). Writes b 0 x b₂ m) (sym (append_assoc (decimal root ++ bytes " ") (decimal passes) (bytes " "))) (writes_then W₁ W₂) in
    writes_then (writes_then W W₃) W₄

-- ---- how long it is
pub refused_length : (e : Refusal) → length (refused_line (number_of e)) ≤ 19
unfolding refused_line
refused_length e = simp length-append (omega (arith, few_digits (number_of e) (omega (arith, number_few e))))

type_length : (root passes : ℕ) (text : List ℕ) → root < 10000 → passes < 10 → length text ≤ 65536 → length (type_line root passes text) ≤ 65544
unfolding type_line
type_length root passes text h k l = simp length-append (omega (arith, decimal_length 3 root h, decimal_length 0 passes k))

-- ---- what fits is written
pub written : {b x b' : List ℕ} {r : ℕ} → length x ≤ length b → Writes b 0 x b' r → (r ≡ length x) × (b' ≡ x ++ drop r b)
written {b} {x} {b'} {r} h W =
    let e : r ≡ length x = omega (arith, W.fits (omega arith)) in
    let z : 0 + length x ≡ r = omega (arith, e) in
    (e, W.put (omega arith) ∙ (λ i. take-length x i ++ drop (z i) b))

module _ {input b b' : List ℕ} {r : ℕ} (size : length b ≡ 65544) where
  whole : {x : List ℕ} → x ≡ sheet_line input → length x ≤ 65544 → Writes b 0 x b' r → WritesLine input b b' r
  whole {x} e h W =
      let p = written (omega (arith, size, h)) W in
      record { count = p.0 ∙ ap length e; fits = omega (arith, p.0, W.long, size, h); bytes = p.1 ∙ ap (λ (l : List ℕ). l ++ drop r b) e }

  module _ {text : List ℕ} {v : Out Answer} where
    pub line_refused : {e : Refusal} {m : ℕ} → AnswersSheet input text v → v ≡ Err e → m ≡ number_of e → Writes b 0 (refused_line m) b' r → WritesLine input b b' r
    unfolding sheet_line_in line_of
    line_refused {e} A q n W = whole (ap line_of (sym (given A.is q))) (omega (arith, refused_length e)) (subst (λ (k : ℕ). Writes b 0 (refused_line k) b' r) n W)
      where
        given : {z : Out Answer} {o : Out Outcome} → Gives text z o → z ≡ Err e → o ≡ Err e
        given (type a b c d) p = let z : ◌≡◌ {A = ℕ} 0 1 = cc in absurd (omega arith)
        given (refused {e = x}) p = let y : x ≡ e = cc in ap Err y

    pub line_type : {u : Answer} → AnswersSheet input text v → v ≡ Ok u → Writes b 0 (type_line u.root u.passes (take u.length text)) b' r → WritesLine input b b' r
    unfolding sheet_line_in line_of
    line_type {u} A q W = go A.is q refl
      where
        go : {z : Out Answer} {o : Out Outcome} → Gives text z o → z ≡ Ok u → o ≡ sheet_answer input → WritesLine input b b' r
        go (type {root = x} {passes = y} {n = m} h k l j) p e =
            let same : record { root = x; passes = y; length = m } ≡ u = cc in
            let f : Ok (record { root = u.root; passes = u.passes; text = take u.length text }) ≡ sheet_answer input
            = sym (ap (λ (z : Answer). Ok (record { root = z.root; passes = z.passes; text = take z.length text })) same) ∙ e in
            let long : length (type_line u.root u.passes (take u.length text)) ≤ 65544
            = subst (λ (z : Answer). length (type_line z.root z.passes (take z.length text)) ≤ 65544) same (type_length x y (take m text) h k (omega (arith, length-take-le m text j, l))) in
            whole (ap line_of f) long W
        go refused p e = let z : ◌≡◌ {A = ℕ} 0 1 = cc in absurd (omega arith)

-- ---- the text of an answer stands in the lent bytes
pub text_inside : {input text : List ℕ} {v : Out Answer} {u : Answer} → AnswersSheet input text v → v ≡ Ok u → u.length ≤ length text
text_inside {text = text} {u = u} A q = go A.is q
  where
    go : {z : Out Answer} {o : Out Outcome} → Gives text z o → z ≡ Ok u → u.length ≤ length text
    go (type {root = x} {passes = y} {n = m} h k l j) p =
        let same : record { root = x; passes = y; length = m } ≡ u = cc in
        subst (λ (z : Answer). z.length ≤ length text) same j
    go refused p = let z : ◌≡◌ {A = ℕ} 0 1 = cc in absurd (omega arith)

pub text_length : {input text : List ℕ} {v : Out Answer} {u : Answer} → AnswersSheet input text v → v ≡ Ok u → u.length ≡ length (take u.length text)
text_length {text = text} {u = u} A q = sym (length-take-le u.length text (text_inside A q))
