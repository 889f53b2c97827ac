-- Each piece of a node's text, written by the kind in the head of the node's words.
use Prim.Native.Nat.{ℕ, zero, suc, ◌+◌, ◌-◌, ◌<◌, ◌≤◌}
use mathlib.Core.Path.{◌≡◌, refl, sym, ap, ◌∙◌, subst}
use mathlib.Core.Bool.{Bool, true, false}
use mathlib.Core.List.{List, [], ◌∷◌, map, append_assoc}
use native.Mathlib.Omega.{arith}
use native.Mathlib.Nat.{le_of_suc-le-suc}
use lib.ListN.{length, get_or, take, drop, length-append, length-replicate}
use lib.Seq.{get_or-take, length-take-le}
use Rattle.words.specs.Words.{bit, head_kind, head_open, head_dynamic, field_optional, field_name}
use Rattle.types.specs.Bytes.{bytes}
use Rattle.types.specs.Short.{short_text}
use Rattle.types.specs.Inner.{text}
use Rattle.types.specs.Tyvar.{tyvar_name}
use Rattle.primitive.specs.Primitive.{primitive_text}
use Rattle.types.specs.Parens.{parens_in_union_member, parens_in_intersection_member, parens_in_lambda_param, parens_in_neg}
use Rattle.types.specs.Kind as kinds
use Rattle.types.specs.Kind.{Kind, disc}
use Rattle.types.specs.Node.{positive, negative, primitive, list, lambda, attrset, named, Tag, members, bound, var, neg, form, tag, kind, field_of, tag_of, tag_of_in, encode_in, guess}
use Rattle.types.specs.Fault.{children_in}
use Rattle.types.specs.declared.short_text.ShortText.{ShortText}
use Rattle.types.proofs.Shorts.{text_short}
use Rattle.names.specs.Table.{Name, split, name_text}
use Rattle.spelling.specs.Spelling.{spelled}
use Rattle.spelling.specs.declared.Spelling.{Spelling}
use Rattle.types.proofs.Lists.{body_lent}
use Rattle.node_store.specs.Inner.Children.{ChildWords}
use Rattle.node_store.proofs.Offspring.{as_many}
use Rattle.appending.specs.Parts.{when, between}
use Rattle.text_writing.specs.Text.{beginning, separator, field_text, field_label, label, parens, set_ending, ending, shown}
use Rattle.appending.specs.Inner.{Writes}
use Rattle.text_writing.specs.Inner.Formed.{IsFormed}
use Rattle.appending.proofs.Appending.{writes_nothing, writes_then, writes_three}
use Rattle.text_writing.proofs.Tags.{said, tag_said, kind_said}

-- the same bytes written as another text
writes_as : {b : List ℕ} {c : ℕ} {x y b' : List ℕ} {e : ℕ} → x ≡ y → Writes b c x b' e → Writes b c y b' e
writes_as {b} {c} {b' = b'} {e} p W = subst (λ (z : List ℕ). Writes b c z b' e) p W

-- ---- a short text by value
pub short_fits : {t : ShortText} (s : List ℕ) → t ≡ short_text s → t.len ≤ length t.bytes
unfolding short_text
short_fits {t} s p =
    let e : t.len ≡ length s = ap (λ (u : ShortText). u.len) p in
    let f : length t.bytes ≡ length s + (11 - length s) = ap (λ (u : ShortText). length u.bytes) p ∙ simp (length-append, length-replicate) in
    omega (arith, e, f)

short_is : {t : ShortText} (s : List ℕ) → t ≡ short_text s → text t ≡ s
short_is s p = ap text p ∙ text_short s

-- ---- a name of the table, and what stands between a field's name and its type
pub writes_name : (sp : Spelling) (t : List ℕ) (w : ℕ) {k : ℕ} {x : List ℕ} → x ≡ name_text t k → k ≡ field_name w → {b : List ℕ} {c : ℕ} {b' : List ℕ} {e : ℕ}
    → Writes b c (spelled sp x) b' e → Writes b c (spelled sp (name_text t (field_name w))) b' e
writes_name sp t w p q W = writes_as (ap (spelled sp) (p ∙ ap (name_text t) q)) W

pub writes_field : (sp : Spelling) (t : List ℕ) (w : ℕ) {so : Bool} → so ≡ field_optional w → {b : List ℕ} {c : ℕ} {b₁ : List ℕ} {m : ℕ} {b₂ : List ℕ} {n : ℕ} {b₃ : List ℕ} {e : ℕ}
    → Writes b c (spelled sp (name_text t (field_name w))) b₁ m → Writes b₁ m (when so (bytes "?")) b₂ n → Writes b₂ n (bytes ": ") b₃ e → Writes b c (field_text sp (split t) (field_optional w) (field_name w)) b₃ e
unfolding field_text name_text
writes_field sp t w p W U X = writes_three W (writes_as (ap (λ (s : Bool). when s (bytes "?")) p) U) X

-- ---- pieces of one kind
module _ (k : Kind) (ws : List ℕ) {n : ℕ} (p : n ≡ head_kind (get_or ws 0 0)) (q : n ≡ disc k) {b : List ℕ} {c : ℕ} {b' : List ℕ} {e : ℕ} where
  pub begins : (sp : Spelling) (ns : List Name) → Writes b c (beginning sp ns (said k ws)) b' e → Writes b c (beginning sp ns (tag (guess ws))) b' e
  begins sp ns W = writes_as (ap (beginning sp ns) (sym (tag_said k ws p q))) W

  pub separates : (i : ℕ) → Writes b c (between (separator (said k ws)) i) b' e → Writes b c (between (separator (tag (guess ws))) i) b' e
  separates i W = writes_as (ap (λ (t : Tag). between (separator t) i) (sym (tag_said k ws p q))) W

  pub ends : (m : ℕ) → Writes b c (ending (said k ws) m) b' e → Writes b c (ending (tag (guess ws)) m) b' e
  ends m W = writes_as (ap (λ (t : Tag). ending t m) (sym (tag_said k ws p q))) W

-- ---- head and body
pub head_there : {ws : List ℕ} → IsFormed ws → 0 < length ws
unfolding encode_in
head_there F = rw F.words (omega arith)

-- ---- the texts that a body's first word says
first_of : (ws : List ℕ) {x : ℕ} → x ≡ get_or (take (length ws - 1) (drop 1 ws)) 0 0 → x ≡ get_or (drop 1 ws) 0 0
first_of ws p = p ∙ ap (λ (d : List ℕ). get_or d 0 0) (body_lent ws)

module _ (ws : List ℕ) {n : ℕ} (p : n ≡ head_kind (get_or ws 0 0)) {x : ℕ} (w : x ≡ get_or (take (length ws - 1) (drop 1 ws)) 0 0) {b : List ℕ} {c : ℕ} {b' : List ℕ} {e : ℕ} where
  pub begins_primitive : n ≡ 2 → (sp : Spelling) (ns : List Name) {t : ShortText} → t ≡ short_text (primitive_text x) → Writes b c (text t) b' e → Writes b c (beginning sp ns (tag (guess ws))) b' e
  unfolding beginning tag_of_in
  begins_primitive q sp ns r W = begins kinds.primitive ws p q sp ns (writes_as (short_is (primitive_text x) r ∙ ap primitive_text (first_of ws w)) W)

  pub begins_var : n ≡ 3 → (sp : Spelling) (ns : List Name) {t : ShortText} → t ≡ short_text (tyvar_name x) → Writes b c (text t) b' e → Writes b c (beginning sp ns (tag (guess ws))) b' e
  unfolding beginning tag_of_in
  begins_var q sp ns r W = begins kinds.ty_var ws p q sp ns (writes_as (short_is (tyvar_name x) r ∙ ap tyvar_name (first_of ws w)) W)

  pub begins_name : n ≡ 9 → (sp : Spelling) (t : List ℕ) → Writes b c (spelled sp (name_text t (field_name x))) b' e → Writes b c (beginning sp (split t) (tag (guess ws))) b' e
  unfolding beginning tag_of_in name_text
  begins_name q sp t W = begins kinds.named ws p q sp (split t) (writes_as (ap (λ (y : ℕ). spelled sp (name_text t (field_name y))) (first_of ws w)) W)

-- ---- the kinds that have no such piece
no_beginning : (sp : Spelling) (ns : List Name) (t : Tag) {n : ℕ} → n ≡ disc (kind t) → (n ≡ 0 → ⊥) → (n ≡ 1 → ⊥) → (n ≡ 2 → ⊥) → (n ≡ 3 → ⊥) → (n ≡ 4 → ⊥) → (n ≡ 6 → ⊥) → (n ≡ 9 → ⊥) → (n ≡ 10 → ⊥) → beginning sp ns t ≡ []
unfolding beginning
no_beginning sp ns (members k) e f0 f1 f2 f3 f4 f6 f9 f10 = refl
no_beginning sp ns (bound positive) e f0 f1 f2 f3 f4 f6 f9 f10 = absurd (f0 e)
no_beginning sp ns (bound negative) e f0 f1 f2 f3 f4 f6 f9 f10 = absurd (f1 e)
no_beginning sp ns (var v) e f0 f1 f2 f3 f4 f6 f9 f10 = absurd (f3 e)
no_beginning sp ns neg e f0 f1 f2 f3 f4 f6 f9 f10 = absurd (f10 e)
no_beginning sp ns (form (primitive c)) e f0 f1 f2 f3 f4 f6 f9 f10 = absurd (f2 e)
no_beginning sp ns (form list) e f0 f1 f2 f3 f4 f6 f9 f10 = absurd (f4 e)
no_beginning sp ns (form lambda) e f0 f1 f2 f3 f4 f6 f9 f10 = refl
no_beginning sp ns (form (attrset fs d o)) e f0 f1 f2 f3 f4 f6 f9 f10 = absurd (f6 e)
no_beginning sp ns (form (named m)) e f0 f1 f2 f3 f4 f6 f9 f10 = absurd (f9 e)

none_between : (i : ℕ) → between [] i ≡ []
unfolding between
none_between zero = refl
none_between (suc i) = refl

no_separator : (t : Tag) {n : ℕ} → n ≡ disc (kind t) → (n ≡ 5 → ⊥) → (n ≡ 6 → ⊥) → (n ≡ 7 → ⊥) → (n ≡ 8 → ⊥) → separator t ≡ []
unfolding separator
no_separator (members positive) e f5 f6 f7 f8 = absurd (f7 e)
no_separator (members negative) e f5 f6 f7 f8 = absurd (f8 e)
no_separator (bound k) e f5 f6 f7 f8 = refl
no_separator (var v) e f5 f6 f7 f8 = refl
no_separator neg e f5 f6 f7 f8 = refl
no_separator (form (primitive c)) e f5 f6 f7 f8 = refl
no_separator (form list) e f5 f6 f7 f8 = refl
no_separator (form lambda) e f5 f6 f7 f8 = absurd (f5 e)
no_separator (form (attrset fs d o)) e f5 f6 f7 f8 = absurd (f6 e)
no_separator (form (named m)) e f5 f6 f7 f8 = refl

no_label : (sp : Spelling) (ns : List Name) (t : Tag) (i : ℕ) {n : ℕ} → n ≡ disc (kind t) → (n ≡ 6 → ⊥) → label sp ns t i ≡ []
unfolding label
no_label sp ns (members k) i e f = refl
no_label sp ns (bound k) i e f = refl
no_label sp ns (var v) i e f = refl
no_label sp ns neg i e f = refl
no_label sp ns (form (primitive c)) i e f = refl
no_label sp ns (form list) i e f = refl
no_label sp ns (form lambda) i e f = refl
no_label sp ns (form (attrset fs d o)) i e f = absurd (f e)
no_label sp ns (form (named m)) i e f = refl

no_ending : (t : Tag) (m : ℕ) {n : ℕ} → n ≡ disc (kind t) → (n ≡ 4 → ⊥) → (n ≡ 6 → ⊥) → ending t m ≡ []
unfolding ending
no_ending (members k) m e f4 f6 = refl
no_ending (bound k) m e f4 f6 = refl
no_ending (var v) m e f4 f6 = refl
no_ending neg m e f4 f6 = refl
no_ending (form (primitive c)) m e f4 f6 = refl
no_ending (form list) m e f4 f6 = absurd (f4 e)
no_ending (form lambda) m e f4 f6 = refl
no_ending (form (attrset fs d o)) m e f4 f6 = absurd (f6 e)
no_ending (form (named l)) m e f4 f6 = refl

all_shown : (t : Tag) (cs : List ℕ) {n : ℕ} → n ≡ disc (kind t) → (n ≡ 9 → ⊥) → shown t cs ≡ cs
unfolding shown
all_shown (members k) cs e f = refl
all_shown (bound k) cs e f = refl
all_shown (var v) cs e f = refl
all_shown neg cs e f = refl
all_shown (form (primitive c)) cs e f = refl
all_shown (form list) cs e f = refl
all_shown (form lambda) cs e f = refl
all_shown (form (attrset fs d o)) cs e f = refl
all_shown (form (named m)) cs e f = absurd (f e)

module _ {ws : List ℕ} (F : IsFormed ws) {n : ℕ} (p : n ≡ head_kind (get_or ws 0 0)) where
  module _ {b : List ℕ} {c : ℕ} where
    pub begins_not : (sp : Spelling) (ns : List Name) → (n ≡ 0 → ⊥) → (n ≡ 1 → ⊥) → (n ≡ 2 → ⊥) → (n ≡ 3 → ⊥) → (n ≡ 4 → ⊥) → (n ≡ 6 → ⊥) → (n ≡ 9 → ⊥) → (n ≡ 10 → ⊥) → Writes b c (beginning sp ns (tag (guess ws))) b c
    begins_not sp ns f0 f1 f2 f3 f4 f6 f9 f10 = writes_nothing (no_beginning sp ns (tag (guess ws)) (kind_said F p) f0 f1 f2 f3 f4 f6 f9 f10)

    pub separates_not : (i : ℕ) → (n ≡ 5 → ⊥) → (n ≡ 6 → ⊥) → (n ≡ 7 → ⊥) → (n ≡ 8 → ⊥) → Writes b c (between (separator (tag (guess ws))) i) b c
    separates_not i f5 f6 f7 f8 = writes_nothing (ap (λ (x : List ℕ). between x i) (no_separator (tag (guess ws)) (kind_said F p) f5 f6 f7 f8) ∙ none_between i)

    pub labels_not : (sp : Spelling) (ns : List Name) (i : ℕ) → (n ≡ 6 → ⊥) → Writes b c (label sp ns (tag (guess ws)) i) b c
    labels_not sp ns i f = writes_nothing (no_label sp ns (tag (guess ws)) i (kind_said F p) f)

    pub ends_not : (m : ℕ) → (n ≡ 4 → ⊥) → (n ≡ 6 → ⊥) → Writes b c (ending (tag (guess ws)) m) b c
    ends_not m f4 f6 = writes_nothing (no_ending (tag (guess ws)) m (kind_said F p) f4 f6)

  pub shown_all : (n ≡ 9 → ⊥) → {d : List ℕ} → ChildWords ws d → length d ≡ length (shown (tag (guess ws)) (children_in ws))
  shown_all f D = as_many D ∙ ap length (sym (all_shown (tag (guess ws)) (children_in ws) (kind_said F p) f))

pub shown_none : (ws : List ℕ) {n : ℕ} → n ≡ head_kind (get_or ws 0 0) → n ≡ 9 → 0 ≡ length (shown (tag (guess ws)) (children_in ws))
unfolding shown tag_of_in
shown_none ws p q = ap (λ (t : Tag). length (shown t (children_in ws))) (sym (tag_said kinds.named ws p q))

-- ---- parentheses
module _ (ws : List ℕ) {n : ℕ} (p : n ≡ head_kind (get_or ws 0 0)) (i k : ℕ) {r : Bool} where
  pub parens_union : n ≡ 7 → r ≡ parens_in_union_member k → r ≡ parens (tag (guess ws)) i k
  unfolding parens tag_of_in
  parens_union q e = e ∙ ap (λ (t : Tag). parens t i k) (sym (tag_said kinds.union ws p q))

  pub parens_intersection : n ≡ 8 → r ≡ parens_in_intersection_member k → r ≡ parens (tag (guess ws)) i k
  unfolding parens tag_of_in
  parens_intersection q e = e ∙ ap (λ (t : Tag). parens t i k) (sym (tag_said kinds.intersection ws p q))

  pub parens_negation : n ≡ 10 → r ≡ parens_in_neg k → r ≡ parens (tag (guess ws)) i k
  unfolding parens tag_of_in
  parens_negation q e = e ∙ ap (λ (t : Tag). parens t i k) (sym (tag_said kinds.neg ws p q))

  pub parens_param : n ≡ 5 → i ≡ 0 → r ≡ parens_in_lambda_param k → r ≡ parens (tag (guess ws)) i k
  unfolding parens tag_of_in
  parens_param q z e = e ∙ (λ j. parens (form lambda) (sym z j) k) ∙ ap (λ (t : Tag). parens t i k) (sym (tag_said kinds.lambda ws p q))

no_parens : (t : Tag) (i k : ℕ) {n : ℕ} → n ≡ disc (kind t) → (n ≡ 7 → ⊥) → (n ≡ 8 → ⊥) → (n ≡ 10 → ⊥) → (n ≡ 5 → i ≡ 0 → ⊥) → false ≡ parens t i k
unfolding parens
no_parens (members positive) i k e f7 f8 f10 f5 = absurd (f7 e)
no_parens (members negative) i k e f7 f8 f10 f5 = absurd (f8 e)
no_parens (bound s) i k e f7 f8 f10 f5 = refl
no_parens (var v) i k e f7 f8 f10 f5 = refl
no_parens neg i k e f7 f8 f10 f5 = absurd (f10 e)
no_parens (form (primitive c)) i k e f7 f8 f10 f5 = refl
no_parens (form list) i k e f7 f8 f10 f5 = refl
no_parens (form lambda) zero k e f7 f8 f10 f5 = absurd (f5 e refl)
no_parens (form lambda) (suc i) k e f7 f8 f10 f5 = refl
no_parens (form (attrset fs d o)) i k e f7 f8 f10 f5 = refl
no_parens (form (named m)) i k e f7 f8 f10 f5 = refl

module _ {ws : List ℕ} (F : IsFormed ws) {n : ℕ} (p : n ≡ head_kind (get_or ws 0 0)) (i k : ℕ) (f7 : n ≡ 7 → ⊥) (f8 : n ≡ 8 → ⊥) (f10 : n ≡ 10 → ⊥) where
  pub parens_not : (n ≡ 5 → ⊥) → false ≡ parens (tag (guess ws)) i k
  parens_not f = no_parens (tag (guess ws)) i k (kind_said F p) f7 f8 f10 (λ e z. f e)

  pub parens_body : (i ≡ 0 → ⊥) → false ≡ parens (tag (guess ws)) i k
  parens_body f = no_parens (tag (guess ws)) i k (kind_said F p) f7 f8 f10 (λ e z. f z)

-- ---- the fields of a set
label_in : (sp : Spelling) (ns : List Name) (l : List ℕ) (i : ℕ) → i < length l → field_text sp ns (field_optional (get_or l i 0)) (field_name (get_or l i 0)) ≡ field_label sp ns (map field_of l) i
unfolding field_label
label_in sp ns [] i h = absurd (omega arith)
label_in sp ns (w ∷ l) zero h = refl
label_in sp ns (w ∷ l) (suc i) h = label_in sp ns l i (le_of_suc-le-suc h)

label_out : (sp : Spelling) (ns : List Name) (l : List ℕ) (i : ℕ) → length l ≤ i → bytes "_: " ≡ field_label sp ns (map field_of l) i
unfolding field_label
label_out sp ns [] i h = refl
label_out sp ns (w ∷ l) zero h = absurd (omega arith)
label_out sp ns (w ∷ l) (suc i) h = label_out sp ns l i (le_of_suc-le-suc h)

-- how many body words are fields, and which
module _ (h : ℕ) (d : List ℕ) {m : ℕ} (f : m ≡ length d - bit (head_dynamic h)) (i : ℕ) where
  many_fields : length (take (length d - bit (head_dynamic h)) d) ≡ length d - bit (head_dynamic h)
  many_fields = length-take-le (length d - bit (head_dynamic h)) d (omega arith)

  pub field_in : i < m → i < length d
  field_in l = omega (arith, f, l)

  module _ (sp : Spelling) (ns : List Name) {b : List ℕ} {c : ℕ} {b' : List ℕ} {e : ℕ} where
    pub labels_field : i < m → Writes b c (field_text sp ns (field_optional (get_or d i 0)) (field_name (get_or d i 0))) b' e → Writes b c (label sp ns (tag_of kinds.attr_set (head_open h) (head_dynamic h) d) i) b' e
    unfolding label tag_of_in
    labels_field l W =
        let k : i < length d - bit (head_dynamic h) = omega (arith, f, l) in
        let r : get_or d i 0 ≡ get_or (take (length d - bit (head_dynamic h)) d) i 0 = sym (get_or-take (length d - bit (head_dynamic h)) d i 0 k) in
        writes_as (ap (λ (y : ℕ). field_text sp ns (field_optional y) (field_name y)) r ∙ label_in sp ns (take (length d - bit (head_dynamic h)) d) i (omega (arith, many_fields, k))) W

    pub labels_dynamic : m ≤ i → Writes b c (bytes "_: ") b' e → Writes b c (label sp ns (tag_of kinds.attr_set (head_open h) (head_dynamic h) d) i) b' e
    unfolding label tag_of_in
    labels_dynamic l W = writes_as (label_out sp ns (take (length d - bit (head_dynamic h)) d) i (omega (arith, many_fields, f, l))) W

pub labels_set : (ws : List ℕ) {n : ℕ} → n ≡ head_kind (get_or ws 0 0) → n ≡ 6 → (sp : Spelling) (ns : List Name) (i : ℕ) {b : List ℕ} {c : ℕ} {b' : List ℕ} {e : ℕ}
    → Writes b c (label sp ns (tag_of kinds.attr_set (head_open (get_or ws 0 0)) (head_dynamic (get_or ws 0 0)) (take (length ws - 1) (drop 1 ws))) i) b' e → Writes b c (label sp ns (tag (guess ws)) i) b' e
labels_set ws p q sp ns i W =
    writes_as
    (ap (λ (d : List ℕ). label sp ns (tag_of kinds.attr_set (head_open (get_or ws 0 0)) (head_dynamic (get_or ws 0 0)) d) i) (body_lent ws) ∙ ap (λ (t : Tag). label sp ns t i) (sym (tag_said kinds.attr_set ws p q)))
    W

-- ---- what ends a set
module _ (h : ℕ) {o : Bool} (p : o ≡ head_open h) (m : ℕ) {b : List ℕ} {c : ℕ} {b' : List ℕ} {e : ℕ} where
  pub ends_open : o ≡ true → {b₁ : List ℕ} {n : ℕ} → Writes b c (between (bytes ", ") m) b₁ n → Writes b₁ n (bytes "... }") b' e → Writes b c (set_ending (head_open h) m) b' e
  unfolding set_ending
  ends_open q W U = writes_as (sym (append_assoc (between (bytes ", ") m) (bytes "...") (bytes " }")) ∙ ap (λ (s : Bool). set_ending s m) (sym q ∙ p)) (writes_then W U)

  pub ends_closed : o ≡ false → Writes b c (bytes " }") b' e → Writes b c (set_ending (head_open h) m) b' e
  unfolding set_ending
  ends_closed q W = writes_as (ap (λ (s : Bool). set_ending s m) (sym q ∙ p)) W

pub ends_set : (ws : List ℕ) {n : ℕ} → n ≡ head_kind (get_or ws 0 0) → n ≡ 6 → {d : List ℕ} → ChildWords ws d → {b : List ℕ} {c : ℕ} {b' : List ℕ} {e : ℕ}
    → Writes b c (set_ending (head_open (get_or ws 0 0)) (length d)) b' e → Writes b c (ending (tag (guess ws)) (length (children_in ws))) b' e
unfolding ending tag_of_in
ends_set ws p q D W = ends kinds.attr_set ws p q (length (children_in ws)) (writes_as (ap (set_ending (head_open (get_or ws 0 0))) (as_many D)) W)
