-- What the steps of the search for a node's fault answer.
use Rattle.std.specs.Prelude.{ℕ, ◌≡◌, Bool, true, false, ◌&&◌, List, map, length, leb, Ok, Err}
use Rattle.std.proofs.Math.Option.{Option, none, some}
use Rattle.words.specs.Words.{child, child_zero, field_name, field_zero}
use Rattle.types.specs.declared.refusal.Refusal.TheVariants as refusal
use Rattle.types.specs.Out.{Out}
use Rattle.types.specs.Kind.{Kind, kind_of, body_count, Body, body_of}
use Rattle.types.specs.Node.{below, rising, children_of}
use Rattle.types.specs.Fault.{field_part, each_zero, body_fits, body_fits_in, first}

-- is n one of low to high?
abbrev pub within : ℕ → ℕ → ℕ → Bool
within low high n = leb low n && leb n high

-- may a node of this kind have so many body words? (01, "Words of the arena")
unfoldable pub count_fits : Option Kind → Bool → ℕ → Bool
unfolding body_count
count_fits none d n = false
count_fits (some k) d n = body_count k d n

-- the fault of a body under a head that fits and counts its words
unfoldable pub body_fault : ℕ → ℕ → Body → Bool → List ℕ → Out (Unit {0})
unfolding body_fits_in below rising children_of field_name
body_fault table nodes s d b =
    first (body_fits s d b)
    (below nodes (children_of s b) && below table (map field_name (field_part s d b)))
    (rising (map field_name (field_part s d b)))

-- the same under a number that may be no kind's
unfoldable pub kind_fault : ℕ → ℕ → Option Kind → Bool → List ℕ → Out (Unit {0})
unfolding body_fault
kind_fault table nodes none d b = Err refusal.MalformedNode
kind_fault table nodes (some k) d b = body_fault table nodes (body_of k) d b

-- ---- quick tests: where one is true there is no fault; where it is false nothing is said
-- of child words
pub record CleanChildren (nodes : ℕ) (ws : List ℕ) (r : Bool) : Type 0 where
  pub zeros : r ≡ true → each_zero child_zero ws ≡ true
  pub linked : r ≡ true → below nodes (map child ws) ≡ true

-- of field words
pub record CleanFields (table nodes : ℕ) (ws : List ℕ) (r : Bool) : Type 0 where
  pub zeros : r ≡ true → each_zero field_zero ws ≡ true
  pub linked : r ≡ true → below nodes (map child ws) ≡ true
  pub named : r ≡ true → below table (map field_name ws) ≡ true
  pub rises : r ≡ true → rising (map field_name ws) ≡ true

-- of words whose count may not fit
pub record Clean (fits : Bool) (fault : Out (Unit {0})) (r : Bool) : Type 0 where
  pub fitting : r ≡ true → fits ≡ true
  pub faultless : r ≡ true → fault ≡ Ok tt

-- of a body under a head of the kind with this number
abbrev pub CleanBody : ℕ → ℕ → ℕ → Bool → List ℕ → Bool → Type 0
CleanBody table nodes k d b r = Clean (count_fits (kind_of k) d (length b)) (kind_fault table nodes (kind_of k) d b) r
