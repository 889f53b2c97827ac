-- The names of a table, read from its bytes.
use Prim.Native.Nat.{ℕ}
use mathlib.Core.Path.{◌≡◌, refl, sym, ap, ◌∙◌, subst}
use mathlib.Core.Bool.{true}
use mathlib.Core.List.{List, [], ◌∷◌, ◌++◌, append_assoc, append-nil}
use native.Mathlib.Omega.{arith}
use lib.ListN.{length, length-append}
use lib.Seq.{take_at, drop_at, append_snoc}
use Rattle.std.specs.Prelude.{Ok}
use Rattle.types.specs.Order.{lexicographic, is_less}
use Rattle.types.proofs.Tests.{and_true}
use Rattle.names.specs.Table.{Name, table, name_order, rising, good_name, all_good, may_follow}
use Rattle.names.proofs.Rules.{good_name_is}
use Rattle.names.proofs.Following.{is_follows}
use Rattle.sheet_reading.specs.Sheet.{last, name, names}
use Rattle.sheet_reading.proofs.Naming.{name_judged, last_more, names_next}

name_back : (previous n : Name) (rest : List ℕ) → good_name n ≡ true → is_less (name_order previous n) ≡ true → name previous (length n ∷ n ++ rest) ≡ Ok (n, rest)
name_back previous n rest g r =
    let G = good_name_is n g in
    let t = take_at n rest (length n) refl in
    name_judged previous (length n) (n ++ rest) G.some_byte G.short (omega (arith, length-append n rest)) {v = true}
    (ap (may_follow previous (length n)) t ∙ is_follows previous (length n) n (record { whole = refl; good = g; rises = r }))
    ∙ (λ i. Ok (t i, drop_at n rest (length n) refl i))

-- after the names ns
names_after : (ns ms : List Name) (rest : List ℕ) → all_good ms ≡ true → rising (last ns ∷ ms) ≡ true → names (length ms) ns (table ms ++ rest) ≡ Ok (ns ++ ms, rest)
unfolding names table rising all_good
names_after ns [] rest g r = ap (λ (l : List Name). Ok (l, rest)) (sym (append-nil ns))
names_after ns (m ∷ ms) rest g r =
    let p = and_true (good_name m) (all_good ms) g in
    let q = and_true (is_less (name_order (last ns) m)) (rising (m ∷ ms)) r in
    names_next (length ms) ns (length m ∷ (m ++ table ms ++ rest))
    (ap (λ (l : List ℕ). name (last ns) (length m ∷ l)) (append_assoc m (table ms) rest) ∙ name_back (last ns) m (table ms ++ rest) p.0 q.0)
    ∙ names_after (ns ++ (m ∷ [])) ms rest p.1 (subst (λ (x : Name). rising (x ∷ ms) ≡ true) (sym (last_more ns m)) q.1)
    ∙ ap (λ (l : List Name). Ok (l, rest)) (append_snoc ns m ms)

-- the empty text comes before every name
before_first : (ms : List Name) → all_good ms ≡ true → rising ms ≡ true → rising ([] ∷ ms) ≡ true
unfolding rising all_good name_order lexicographic
before_first [] g r = refl
before_first ([] ∷ ms) g r = absurd (omega (arith, (good_name_is [] (and_true (good_name []) (all_good ms) g).0).some_byte))
before_first ((b ∷ n) ∷ ms) g r = r

pub names_back : (ns : List Name) (rest : List ℕ) → all_good ns ≡ true → rising ns ≡ true → names (length ns) [] (table ns ++ rest) ≡ Ok (ns, rest)
unfolding last
names_back ns rest g r = names_after [] ns rest g (before_first ns g r)
