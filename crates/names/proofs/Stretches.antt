-- Where a name's text lies in a table: what `name_stretch` answers, case by case, and that it is the text.
use Prim.Native.Nat.{ℕ, zero, suc, ◌+◌, ◌<◌, ◌≤◌}
use mathlib.Core.Path.{◌≡◌, refl, sym, ap, ◌∙◌}
use mathlib.Core.Bool.{Bool, true, false}
use mathlib.Core.List.{List, [], ◌∷◌, ◌++◌, append_assoc}
use mathlib.Core.Option.{Option, none, some}
use native.Mathlib.Omega.{arith}
use lib.ListN.{length, get_or, take, drop, length-drop}
use lib.Seq.{length-take-le, take_at, drop_at, drop-cons, drop-drop}
use lib.Dec.{ltb}
use borrow.Author.Tests.{lt-ltb, le-ltb, ltb-true}
use Rattle.std.specs.Prelude.{Ok, Err}
use Rattle.types.specs.declared.refusal.Refusal.{Refusal}
use Rattle.types.specs.declared.refusal.Refusal.TheVariants as refusal
use Rattle.types.specs.Out.{Out, required}
use Rattle.names.specs.Table.{Name, table, split, names_of}
use Rattle.names.specs.Inner.{Lies}
use Rattle.names.specs.Reply.{table_reply, stretch, name_reply}
use Rattle.names.specs.Theorems.{IsText, StretchIsText}
use Rattle.names.specs.declared.Stretch.{Stretch}
use Rattle.names.proofs.Tables.{names_of_is, split_is, name_text_is}
use Rattle.names.proofs.Replies.{counted, faulty}

abbrev by_number : ℕ → List Name → Out Stretch
by_number k ns = elim (ltb k (length ns)) [ false ↦ Err refusal.OutOfRange | true ↦ Ok (stretch ns k) ]

module _ (t : List ℕ) (k : ℕ) where
  reply_of : {o : Option (List Name)} → names_of t ≡ o → name_reply t k ≡ required refusal.BadTable o (by_number k)
  unfolding name_reply
  reply_of e = ap (λ (o : Option (List Name)). required refusal.BadTable o (by_number k)) e

  reply_by : {ns : List Name} {b : Bool} → names_of t ≡ some ns → ltb k (length ns) ≡ b → name_reply t k ≡ elim b [ false ↦ Err refusal.OutOfRange | true ↦ Ok (stretch ns k) ]
  unfolding required
  reply_by {ns} e p = reply_of e ∙ ap (λ (b : Bool). elim b [ false ↦ Err refusal.OutOfRange | true ↦ Ok (stretch ns k) ]) p

  -- ---- the call, after the check of the table
  pub stretch_refused : {e : Refusal} → Err e ≡ table_reply t → Err e ≡ name_reply t k
  unfolding required
  stretch_refused h = let F = faulty h in ap {B = Out Stretch} Err F.refusal ∙ sym (reply_of F.is)

  pub stretch_4 : {n : ℕ} → Ok n ≡ table_reply t → n ≤ k → Err refusal.OutOfRange ≡ name_reply t k
  stretch_4 e h = let C = counted e in sym (reply_by C.is (le-ltb k (length C.names) (omega (arith, C.count))))

pub stretch_found : {t : List ℕ} {j k : ℕ} {q : Stretch} → Lies t j q → j ≡ k → {n : ℕ} → Ok n ≡ table_reply t → j < n → Ok q ≡ name_reply t k
unfolding stretch
stretch_found {t} {k = k} {q} L i e h =
    let C = counted e in
    let s : split t ≡ C.names = split_is (names_of_is t C.names C.is) in
    let l : k < length C.names = omega (arith, C.count) in
    let M : Lies t k q = rw i at L in
    let b : q.start ≡ length (table (take k C.names)) + 1 = rw s at M.behind l in
    let m : length (take q.length (drop q.start t)) ≡ q.length = length-take-le q.length (drop q.start t) (simp length-drop (omega (arith, M.within))) in
    let d : q.length ≡ length (get_or C.names k []) = sym m ∙ ap length (M.text ∙ name_text_is t C.names k C.is) in
    ap {B = Out Stretch} Ok (λ x. record { start = b x; length = d x }) ∙ sym (reply_by t k C.is (lt-ltb k (length C.names) l))

-- ---- the stretch is the text
table_split : (k : ℕ) (ns : List Name) → table ns ≡ table (take k ns) ++ table (drop k ns)
unfolding table
table_split zero ns = refl
table_split (suc k) [] = refl
table_split (suc k) (n ∷ ns) = ap (λ (l : List ℕ). length n ∷ n ++ l) (table_split k ns) ∙ ap (λ (l : List ℕ). length n ∷ l) (sym (append_assoc n (table (take k ns)) (table (drop k ns))))

text_in : (k : ℕ) (ns : List Name) → k < length ns → take (length (get_or ns k [])) (drop (length (table (take k ns)) + 1) (table ns)) ≡ get_or ns k []
unfolding table
text_in k ns h =
    let n = get_or ns k [] in
    let u = table (take k ns) in
    let r = table (drop (suc k) ns) in
    let d : drop (length u) (table ns) ≡ length n ∷ n ++ r = ap (drop (length u)) (table_split k ns) ∙ drop_at u (table (drop k ns)) (length u) refl ∙ ap table (drop-cons ns k [] h) in
    ap (take (length n)) (sym (drop-drop 1 (length u) (table ns)) ∙ ap (drop 1) d) ∙ take_at n r (length n) refl

pub stretch_is_text : StretchIsText
unfolding required stretch
stretch_is_text t k q e = go (names_of t) refl
  where
    tested : (ns : List Name) → names_of t ≡ some ns → (b : Bool) → ltb k (length ns) ≡ b → IsText t k q
    tested ns p false g = let w = reply_by t k p g in let z : ◌≡◌ {A = ℕ} 0 1 = cc in absurd (omega arith)
    tested ns p true g =
        let w = reply_by t k p g in
        let s : q ≡ stretch ns k = cc in
        let l = ltb-true k (length ns) g in
        record {
          names = ns;
          is = p;
          there = l;
          text = (λ i. take (s i).length (drop (s i).start ((names_of_is t ns p).bytes i))) ∙ text_in k ns l;
        }

    go : (o : Option (List Name)) → names_of t ≡ o → IsText t k q
    go none p = let w = reply_of t k p in let z : ◌≡◌ {A = ℕ} 0 1 = cc in absurd (omega arith)
    go (some ns) p = tested ns p (ltb k (length ns)) refl
