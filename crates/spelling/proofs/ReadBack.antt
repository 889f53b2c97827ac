-- What is printed as the manual writes it reads back. In quotes a byte is read as it was written, by induction on the name: the bytes that a
-- backslash stands before are themselves behind it, and no others end the string, escape or begin an interpolation. A `$` is taken together
-- with a `$` that follows, so the induction shows of each name what it reads as, and what it reads as behind a `$`.
use Prim.Native.Nat.{ℕ}
use mathlib.Core.Path.{◌≡◌, refl, sym, ap, ap₂, ◌∙◌}
use mathlib.Core.Bool.{Bool, true, false, ◌&&◌}
use mathlib.Core.List.{List, [], ◌∷◌, ◌++◌, append-nil, append_assoc}
use mathlib.Core.Option.{Option, none, some}
use lib.Dec.{eqb}
use borrow.Author.Tests.{eqb-true}
use Rattle.types.proofs.Tests.{true_false, and_true, both, neither, not_true}
use Rattle.names.specs.Table.{Name}
use Rattle.spelling.specs.Spelling.{begins, continues, all_continue, identifier, plain, braced, backslashed, escaped_byte, escaped, quoted, nix_name}
use Rattle.spelling.specs.Reading.{Read, with_front, unescaped, string_step, read_string, read_word, read_identifier, read_name, goes_on}
use Rattle.spelling.specs.Theorems.{ReadsBack}
use Rattle.spelling.proofs.Spellings.{nix_name_is}

-- this name was read, and this stands behind it
abbrev got : Name → List ℕ → Option Read
got n r = some (record { name = n; rest = r })

-- ---- how a string is read, byte by byte
end_read : (r : List ℕ) → read_string (34 ∷ r) ≡ got [] r
unfolding read_string
end_read [] = refl
end_read (c ∷ cs) = refl

escape_read : (c : ℕ) (r : List ℕ) → read_string (92 ∷ c ∷ r) ≡ with_front (unescaped c ∷ []) (read_string r)
unfolding read_string
escape_read c r = refl

dollars_read : (r : List ℕ) → read_string (36 ∷ 36 ∷ r) ≡ with_front (36 ∷ 36 ∷ []) (read_string r)
unfolding read_string
dollars_read r = refl

-- a `$` alone
dollar_read : (c : ℕ) (r : List ℕ) → eqb c 36 ≡ false → eqb c 123 ≡ false → read_string (36 ∷ c ∷ r) ≡ with_front (36 ∷ []) (read_string (c ∷ r))
unfolding read_string
dollar_read c r e f = rw (e, f, string_step)

-- a byte that is none of these, before the last quote
byte_read : (b : ℕ) (x r : List ℕ) → eqb b 34 ≡ false → eqb b 92 ≡ false → eqb b 36 ≡ false → read_string (b ∷ (x ++ (34 ∷ r))) ≡ with_front (b ∷ []) (read_string (x ++ (34 ∷ r)))
unfolding read_string
byte_read b [] r e f g = rw (e, f, g, g, string_step)
byte_read b (c ∷ cs) r e f g = rw (e, f, g, g, string_step)

-- ---- how a name is written in quotes, byte by byte
escaped_so : (b : ℕ) (bs x : List ℕ) {t : Bool} → backslashed (b ∷ bs) ≡ t → escaped (b ∷ bs) ++ x ≡ escaped_byte t b ++ (escaped bs ++ x)
unfolding escaped
escaped_so b bs x {t} e = ap (λ (u : Bool). escaped_byte u b ++ escaped bs ++ x) e ∙ append_assoc (escaped_byte t b) (escaped bs) x

-- a byte that a backslash stands before is itself behind it
marked_itself : (b : ℕ) (bs : List ℕ) → backslashed (b ∷ bs) ≡ true → unescaped b ≡ b
unfolding backslashed unescaped
marked_itself b bs e = go (eqb b 34) refl (eqb b 92) refl (eqb b 36) refl
  where
    itself : (c : ℕ) → unescaped c ≡ c → eqb b c ≡ true → unescaped b ≡ b
    itself c h q = let p = eqb-true b c q in ap unescaped p ∙ h ∙ sym p

    go : (x : Bool) → eqb b 34 ≡ x → (y : Bool) → eqb b 92 ≡ y → (z : Bool) → eqb b 36 ≡ z → unescaped b ≡ b
    go true p y q z s = itself 34 refl p
    go false p true q z s = itself 92 refl q
    go false p false q true s = itself 36 refl s
    go false p false q false s = absurd (true_false (sym e ∙ rw (p, q, s)))

-- a byte that none stands before
record Unmarked (b : ℕ) (bs : List ℕ) : Type 0 where
  quote : eqb b 34 ≡ false
  backslash : eqb b 92 ≡ false
  dollar : (eqb b 36 && braced bs) ≡ false

unmarked : (b : ℕ) (bs : List ℕ) → backslashed (b ∷ bs) ≡ false → Unmarked b bs
unfolding backslashed
unmarked b bs e = let p = neither (eqb b 34) _ e in let q = neither (eqb b 92) _ p.1 in record { quote = p.0; backslash = q.0; dollar = q.1 }

-- ---- a name in quotes
record ReadsAs (n : Name) (r : List ℕ) : Type 0 where
  string : read_string (escaped n ++ (34 ∷ r)) ≡ got n r
  -- behind a `$`
  dollar : braced n ≡ false → read_string (36 ∷ (escaped n ++ (34 ∷ r))) ≡ got (36 ∷ n) r

nothing_read : (r : List ℕ) → ReadsAs [] r
unfolding escaped with_front
nothing_read r = record { string = end_read r; dollar = λ _. dollar_read 34 r refl refl ∙ ap (with_front (36 ∷ [])) (end_read r) }

module _ (b : ℕ) (bs r : List ℕ) (I : ReadsAs bs r) where
  -- the byte b before them
  abbrev written : Bool → List ℕ
  written t = escaped_byte t b ++ (escaped bs ++ (34 ∷ r))

  string_so : (t : Bool) → backslashed (b ∷ bs) ≡ t → read_string (written t) ≡ got (b ∷ bs) r
  unfolding escaped_byte with_front
  string_so true e = escape_read b (escaped bs ++ (34 ∷ r)) ∙ ap₂ (λ (c : ℕ) (o : Option Read). with_front (c ∷ []) o) (marked_itself b bs e) I.string
  string_so false e = go (eqb b 36) refl
    where
      U : Unmarked b bs
      U = unmarked b bs e

      go : (t : Bool) → eqb b 36 ≡ t → read_string (b ∷ (escaped bs ++ (34 ∷ r))) ≡ got (b ∷ bs) r
      go true p =
          let q = eqb-true b 36 p in
          ap (λ (c : ℕ). read_string (c ∷ (escaped bs ++ (34 ∷ r)))) q ∙ I.dollar (rw p at U.dollar) ∙ ap (λ (c : ℕ). got (c ∷ bs) r) (sym q)
      go false p = byte_read b (escaped bs) r U.quote U.backslash p ∙ ap (with_front (b ∷ [])) I.string

  dollar_so : (t : Bool) → backslashed (b ∷ bs) ≡ t → eqb b 123 ≡ false → read_string (36 ∷ written t) ≡ got (36 ∷ b ∷ bs) r
  unfolding escaped_byte with_front
  dollar_so true e f = dollar_read 92 _ refl refl ∙ ap (with_front (36 ∷ [])) (string_so true e)
  dollar_so false e f = go (eqb b 36) refl
    where
      go : (t : Bool) → eqb b 36 ≡ t → read_string (36 ∷ b ∷ (escaped bs ++ (34 ∷ r))) ≡ got (36 ∷ b ∷ bs) r
      go true p =
          let q = eqb-true b 36 p in
          ap (λ (c : ℕ). read_string (36 ∷ c ∷ (escaped bs ++ (34 ∷ r)))) q ∙ dollars_read _ ∙ ap (with_front (36 ∷ 36 ∷ [])) I.string
          ∙ ap (λ (c : ℕ). got (36 ∷ c ∷ bs) r) (sym q)
      go false p = dollar_read b _ p f ∙ ap (with_front (36 ∷ [])) (string_so false e)

  byte_more : ReadsAs (b ∷ bs) r
  unfolding braced
  byte_more =
      let w = escaped_so b bs (34 ∷ r) {t = backslashed (b ∷ bs)} refl in
      record {
        string = ap read_string w ∙ string_so _ refl;
        dollar = λ f. ap (λ (l : List ℕ). read_string (36 ∷ l)) w ∙ dollar_so _ refl f;
      }

string_read : (n : Name) (r : List ℕ) → ReadsAs n r
string_read [] r = nothing_read r
string_read (b ∷ bs) r = byte_more b bs r (string_read bs r)

-- ---- a plain name
word_read : (n r : List ℕ) → all_continue n ≡ true → goes_on r ≡ false → read_word (n ++ r) ≡ record { name = n; rest = r }
unfolding read_word all_continue goes_on
word_read [] [] e f = refl
word_read [] (c ∷ cs) e f = rw (f, read_word)
word_read (b ∷ bs) r e f =
    let p = and_true (continues b) (all_continue bs) e in
    rw (p.0, read_word) (ap (λ (w : Read). record { name = b ∷ w.name; rest = w.rest }) (word_read bs r p.1 f))

-- what an identifier begins with it may go on with, and it begins no string
module _ (b : ℕ) (e : begins b ≡ true) where
  begun_on : continues b ≡ true
  unfolding continues
  begun_on = rw e

  no_quote : eqb b 34 ≡ false
  unfolding begins
  no_quote = not_true (eqb b 34) (λ q. true_false (sym e ∙ ap begins (eqb-true b 34 q)))

plain_begins : (b : ℕ) (bs : List ℕ) → plain (b ∷ bs) ≡ true → (begins b ≡ true) × (all_continue bs ≡ true)
unfolding plain identifier
plain_begins b bs e = and_true (begins b) (all_continue bs) (and_true (identifier (b ∷ bs)) _ e).0

plain_continues : (n : Name) → plain n ≡ true → all_continue n ≡ true
unfolding all_continue
plain_continues [] e = refl
plain_continues (b ∷ bs) e = let p = plain_begins b bs e in both (begun_on b p.0) p.1

module _ (r : List ℕ) (f : goes_on r ≡ false) where
  identifier_read : (n : Name) → plain n ≡ true → read_identifier (n ++ r) ≡ got n r
  unfolding read_identifier
  identifier_read n e = let w = word_read n r (plain_continues n e) f in rw (w, e, read_identifier) (ap some w)

  plain_read : (n : Name) → plain n ≡ true → read_name (n ++ r) ≡ got n r
  unfolding read_name
  plain_read [] e = absurd (true_false (sym e))
  plain_read (b ∷ bs) e = rw (no_quote b (plain_begins b bs e).0, read_name) (identifier_read (b ∷ bs) e)

-- ---- either way
quoted_read : (n : Name) (r : List ℕ) → read_name (quoted n ++ r) ≡ got n r
unfolding read_name quoted
quoted_read n r = ap read_string (append_assoc (escaped n) (34 ∷ []) r) ∙ (string_read n r).string

name_read : (n : Name) (r : List ℕ) → goes_on r ≡ false → read_name (nix_name n ++ r) ≡ got n r
name_read n r f = go (plain n) refl
  where
    go : (t : Bool) → plain n ≡ t → read_name (nix_name n ++ r) ≡ got n r
    go true e = rw (nix_name_is n e) (plain_read r f n e)
    go false e = rw (nix_name_is n e) (quoted_read n r)

whole_read : (n : Name) → read_name (nix_name n) ≡ got n []
unfolding goes_on
whole_read n = ap read_name (sym (append-nil (nix_name n))) ∙ name_read n [] refl

-- the name that was read
read_as : Option Read → Name
read_as none = []
read_as (some r) = r.name

pub reads_back : ReadsBack
unfolding read_as
reads_back = record { whole = whole_read; in_front = name_read; one_name = λ m n e. ap read_as (sym (whole_read m) ∙ ap read_name e ∙ whole_read n) }
