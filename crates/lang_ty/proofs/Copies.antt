-- The type that `compact` copied is structurally equal to the one it came from: a host that asks after a finished call is answered yes.
use Prim.Native.Nat.{ℕ, suc, ◌<◌, ◌≤◌}
use mathlib.Core.Path.{◌≡◌, refl, sym, ap, ◌∙◌, subst, subst₂, subst₃}
use mathlib.Core.Bool.{Bool, true, false}
use mathlib.Core.List.{List, []}
use mathlib.Core.Option.{Option, none, some}
use native.Mathlib.Omega.{arith}
use lib.ListN.{length, length-replicate}
use lib.Dec.{ltb, leb}
use borrow.Author.Tests.{ltb-true, ltb-false, leb-true, le-leb}
use Rattle.std.specs.Prelude.{Ok, Err}
use Rattle.types.specs.declared.refusal.Refusal.{Refusal}
use Rattle.types.specs.declared.refusal.Refusal.TheVariants as refusal
use Rattle.types.specs.Out.{Out, required}
use Rattle.types.specs.Node.{Tag}
use Rattle.types.specs.Arena.{Arena, sound}
use Rattle.types.specs.Memory.{flat, heads, words_of, starts_of, counters_of, arena_of, Holds}
use Rattle.types.specs.Reply.{Reply, reply, reply_of, tabled, judged, rooted}
use Rattle.types.specs.declared.Counters.{Counters}
use Rattle.types.proofs.Tests.{and_true, both, same_true, same_if}
use Rattle.types.proofs.Lists.{length_padded}
use Rattle.types.proofs.Addresses.{length_heads}
use Rattle.types.proofs.Memories.{holds_arena_of}
use Rattle.types.proofs.Replies.{rooted_no, rooted_yes}
use Rattle.names.specs.Table.{Name, names_of}
use Rattle.node_store.specs.Intern.{has_room}
use Rattle.recursion.proofs.Answers.{ok_err, ok_same}
use Rattle.copying.specs.Copy.{copy}
use Rattle.copying.proofs.Running.{compact_sound, compact_inside, compact_fold}
use Rattle.copying.proofs.Rooms.{copy_room}
use Rattle.compact.specs.Compact.{limited, source, cleared, empty, compacted, compact_reply}
use Rattle.equal.specs.Equal.{Tree, over, label_of, tree_dec, tree, equal}
use Rattle.soundness.specs.Lent.{lent_to}
use Rattle.soundness.specs.Inner.Sides.{Side}
use Rattle.soundness.proofs.Sides.{side_to}
use Rattle.equal.specs.Reply.{equal_roots, equal_reply}
use Rattle.lang_ty.specs.Theorems.{CompactEqual}

-- ---- whatever a call that is lent an arena answers
module _ {A : Type 0} (P : Out A → Type 0) where
  pub lent_cases : (t w s : List ℕ) (c : Counters) (f : List Name → Arena → Out A) → P (Err refusal.BadTable) → P (Err refusal.UnsoundArena) → ((S : Side t w s c) → P (f S.names S.view)) → P (lent_to t w s c f)
  unfolding lent_to tabled judged required
  lent_cases t w s c f one two h = go (names_of t) refl
    where
      judge : (ns : List Name) → names_of t ≡ some ns → (o : Option Arena) → arena_of (length ns) w s c ≡ o → P (required refusal.UnsoundArena o (f ns))
      judge ns e none r = two
      judge ns e (some u) r = h (record { names = ns; is = e; view = u; holds = holds_arena_of r })

      go : (o : Option (List Name)) → names_of t ≡ o → P (required refusal.BadTable o (λ (ns : List Name). required refusal.UnsoundArena (arena_of (length ns) w s c) (f ns)))
      go none e = one
      go (some ns) e = judge ns e (arena_of (length ns) w s c) refl

  pub rooted_cases : (root : ℕ) (f : Arena → Out A) (a : Arena) → P (Err refusal.NoSuchRoot) → (root < length a → P (f a)) → P (rooted root f a)
  rooted_cases root f a six h = go (ltb root (length a)) refl
    where
      go : (b : Bool) → ltb root (length a) ≡ b → P (rooted root f a)
      go true e = let l = ltb-true root (length a) e in subst P (sym (rooted_yes root f a l)) (h l)
      go false e = subst P (sym (rooted_no root f a (ltb-false root (length a) e))) six

-- ---- what a finished call was lent
record Source (t w s : List ℕ) (c : Counters) (root : ℕ) (tw ts : List ℕ) (u : Arena) : Type 0 where
  pub names : List Name
  pub is : names_of t ≡ some names
  pub holds : Holds (length names) w s c u
  pub inside : root < length u
  pub few_words : length tw ≤ 16384
  pub few_starts : length ts ≤ 4096

within_limits : {A : Type 0} (tw ts : List ℕ) (o : Out A) {y : A} → limited tw ts o ≡ Ok y → (length tw ≤ 16384) × (length ts ≤ 4096) × (o ≡ Ok y)
unfolding limited
within_limits {A} tw ts o {y} e = go (ltb 16384 (length tw)) (ltb 4096 (length ts)) refl refl
  where
    go : (a b : Bool) → ltb 16384 (length tw) ≡ a → ltb 4096 (length ts) ≡ b → (length tw ≤ 16384) × (length ts ≤ 4096) × (o ≡ Ok y)
    go true b p q = let z : limited tw ts o ≡ Err refusal.UnsoundArena = rw (limited, p) in absurd (ok_err (sym z ∙ e))
    go false true p q = let z : limited tw ts o ≡ Err refusal.UnsoundArena = rw (limited, p, q) in absurd (ok_err (sym z ∙ e))
    go false false p q = let z : limited tw ts o ≡ o = rw (limited, p, q) in (ltb-false 16384 (length tw) p, ltb-false 4096 (length ts) q, sym z ∙ e)

module _ (t w s : List ℕ) (c : Counters) (root : ℕ) (tw ts : List ℕ) (u : Arena) where
  abbrev Lent : Out Arena → Type 0
  Lent o = o ≡ Ok u → Source t w s c root tw ts u

  lent_so : Lent (source t w s c root tw ts)
  unfolding source lent_to
  lent_so =
      lent_cases Lent t w s c (λ (ns : List Name) (v : Arena). limited tw ts (rooted root Ok v)) (λ e. absurd (ok_err e)) (λ e. absurd (ok_err e)) (λ S e.
      let l = within_limits tw ts (rooted root Ok S.view) e in
      rooted_cases Lent root Ok S.view (λ f. absurd (ok_err f)) (λ r f.
      let v = ok_same f in
      record {
        names = S.names;
        is = S.is;
        holds = subst (Holds (length S.names) w s c) v S.holds;
        inside = subst (λ (a : Arena). root < length a) v r;
        few_words = l.0;
        few_starts = l.1;
      }) l.2)

-- ---- what a finished call has left
reply_parts : {m n : ℕ} {c d : Counters} {w v s r : List ℕ} → ◌≡◌ {A = Reply ℕ} (reply (Ok m) c w s) (reply (Ok n) d v r) → (m ≡ n) × (c ≡ d) × (w ≡ v) × (s ≡ r)
reply_parts e = (cc, cc, cc, cc)

pub reply_not : {m : Refusal} {n : ℕ} {c d : Counters} {w v s r : List ℕ} → ◌≡◌ {A = Reply ℕ} (reply (Err m) c w s) (reply (Ok n) d v r) → ⊥
reply_not e = let z : ◌≡◌ {A = ℕ} 0 1 = cc in omega arith

-- what was done gave a number and an arena, which memory of so many words and starts has
pub record Left (words starts : ℕ) (o : Out (ℕ × Arena)) (m : ℕ) (d : Counters) (w s : List ℕ) : Type 0 where
  pub target : Arena
  pub run : o ≡ Ok (m, target)
  pub counters : d ≡ counters_of target
  pub words_are : w ≡ words_of words target
  pub starts_are : s ≡ starts_of starts target

pub left_so : (w s : List ℕ) (c : Counters) (o : Out (ℕ × Arena)) {m : ℕ} {d : Counters} {w' s' : List ℕ} → reply_of w s c o ≡ reply (Ok m) d w' s' → Left (length w) (length s) o m d w' s'
unfolding reply_of
left_so w s c (Err n) e = absurd (reply_not e)
left_so w s c (Ok r) e =
    let q = reply_parts e in
    record { target = r.1; run = ap (λ (k : ℕ). Ok (k, r.1)) q.0; counters = sym q.1; words_are = sym q.2; starts_are = sym q.3 }

copied_so : (tw ts : List ℕ) (o : Out (ℕ × Arena)) {m : ℕ} {d : Counters} {tw' ts' : List ℕ} → reply_of (cleared tw) (cleared ts) empty o ≡ reply (Ok m) d tw' ts' → Left (length tw) (length ts) o m d tw' ts'
copied_so tw ts o {m} {d} {tw'} {ts'} e = subst₂ (λ (i j : ℕ). Left i j o m d tw' ts') (length-replicate (length tw) 0) (length-replicate (length ts) 0) (left_so (cleared tw) (cleared ts) empty o e)

-- an arena with room, in memory of that size, is held there
held : (table : ℕ) (words starts : ℕ) (b : Arena) → words ≤ 16384 → starts ≤ 4096 → has_room words starts b ≡ true → sound table b ≡ true → Holds table (words_of words b) (starts_of starts b) (counters_of b) b
unfolding has_room
held table words starts b few_words few_starts r g =
    let p = and_true (leb (length (flat b)) words) (leb (length b) starts) r in
    let k = length_padded words (flat b) (leb-true (length (flat b)) words p.0) in
    let l = length_padded starts (heads b) (omega (arith, length_heads b, leb-true (length b) starts p.1)) in
    record {
      few_words = omega (arith, k, few_words);
      few_starts = omega (arith, l, few_starts);
      nodes = refl;
      total = refl;
      words = ap (λ (i : ℕ). words_of i b) (sym k);
      starts = ap (λ (i : ℕ). starts_of i b) (sym l);
      good = g;
    }

pub left_held : {table words starts : ℕ} {o : Out (ℕ × Arena)} {m : ℕ} {d : Counters} {w s : List ℕ} (L : Left words starts o m d w s) → words ≤ 16384 → starts ≤ 4096 → has_room words starts L.target ≡ true → sound table L.target ≡ true → Holds table w s d L.target
left_held {table} {words} {starts} L few_words few_starts r g =
    subst₃ (λ (x y : List ℕ) (i : Counters). Holds table x y i L.target) (sym L.words_are) (sym L.starts_are) (sym L.counters) (held table words starts L.target few_words few_starts r g)

-- ---- both arenas compared
module _ {t w s : List ℕ} {c : Counters} {u v r : List ℕ} {d : Counters} (S : Side t w s c) (T : Side u v r d) (m n : ℕ) where
  judged_equal : m < length S.view → n < length T.view → equal_reply t w s c m u v r d n ≡ Ok (equal S.names S.view m T.names T.view n)
  unfolding equal_reply equal_roots
  judged_equal l k =
      sym (side_to S (λ (ns : List Name) (a : Arena). lent_to u v r d (λ (ms : List Name) (b : Arena). equal_roots m n ns a ms b)))
      ∙ sym (side_to T (λ (ms : List Name) (b : Arena). equal_roots m n S.names S.view ms b))
      ∙ rooted_yes m (λ (x : Arena). rooted n (λ (y : Arena). Ok (equal S.names x m T.names y n)) T.view) S.view l
      ∙ rooted_yes n (λ (y : Arena). Ok (equal S.names S.view m T.names y n)) T.view k

  -- two nodes with one tree are told to be equal
  pub told_equal : m < length S.view → n < length T.view → tree S.names S.view m ≡ tree T.names T.view n → equal_reply t w s c m u v r d n ≡ Ok true
  unfolding equal
  told_equal l k e = judged_equal l k ∙ ap Ok (same_if tree_dec (tree S.names S.view m) (tree T.names T.view n) e)

-- and nodes that are told to be equal have one tree
pub record OneTree (t w s : List ℕ) (c : Counters) (m : ℕ) (u v r : List ℕ) (d : Counters) (n : ℕ) : Type 0 where
  pub left : Side t w s c
  pub right : Side u v r d
  pub left_inside : m < length left.view
  pub right_inside : n < length right.view
  pub same : tree left.names left.view m ≡ tree right.names right.view n

pub one_tree : (t w s : List ℕ) (c : Counters) (m : ℕ) (u v r : List ℕ) (d : Counters) (n : ℕ) → equal_reply t w s c m u v r d n ≡ Ok true → OneTree t w s c m u v r d n
unfolding equal_reply equal_roots equal
one_tree t w s c m u v r d n =
    lent_cases Told t w s c _ ok_err_told ok_err_told (λ S.
    lent_cases Told u v r d _ ok_err_told ok_err_told (λ T.
    rooted_cases Told m (λ (x : Arena). rooted n (λ (y : Arena). Ok (equal S.names x m T.names y n)) T.view) S.view ok_err_told (λ l.
    rooted_cases Told n (λ (y : Arena). Ok (equal S.names S.view m T.names y n)) T.view ok_err_told (λ i e.
    record { left = S; right = T; left_inside = l; right_inside = i; same = same_true tree_dec _ _ (ok_same e) }))))
  where
    Told : Out Bool → Type 0
    Told o = o ≡ Ok true → OneTree t w s c m u v r d n

    ok_err_told : {k : Refusal} → ◌≡◌ {A = Out Bool} (Err k) (Ok true) → OneTree t w s c m u v r d n
    ok_err_told e = absurd (ok_err e)

-- a finished copy is equal to what was copied, under the same names
pub compact_equal : CompactEqual
unfolding compact_reply compacted tree has_room sound
compact_equal t w s c root tw ts d m d' tw' ts' e = go (source t w s c root tw ts) refl e
  where
    answered : (u : Arena) → Source t w s c root tw ts u → Left (length tw) (length ts) (copy (length tw) (length ts) u root []) m d' tw' ts' → equal_reply t w s c root t tw' ts' d' m ≡ Ok true
    answered u S L =
        let ns = S.names in
        let g = S.holds.good in
        let b = L.target in
        let F = compact_sound (length tw) (length ts) (length ns) S.few_starts u g root m b S.inside L.run in
        let R = copy_room (length tw) (length ts) (length ns) u g (suc root) root (omega arith) S.inside [] m b (both (le-leb 0 (length tw) (omega arith)) (le-leb 0 (length ts) (omega arith))) L.run in
        told_equal (record { names = ns; is = S.is; view = u; holds = S.holds }) (record { names = ns; is = S.is; view = b; holds = left_held L S.few_words S.few_starts R F }) root m
        S.inside (compact_inside (length tw) (length ts) (length ns) S.few_starts u g root m b S.inside L.run)
        (sym (compact_fold (λ (x : Tag) (xs : List Tree). over (label_of ns x) xs) (length tw) (length ts) (length ns) u root m b (record { few = S.few_starts; good = g; inside = S.inside; run = L.run })))

    go : (o : Out Arena) → source t w s c root tw ts ≡ o → compacted root tw ts d o ≡ reply (Ok m) d' tw' ts' → equal_reply t w s c root t tw' ts' d' m ≡ Ok true
    go (Err n) p f = absurd (reply_not f)
    go (Ok u) p f = answered u (lent_so t w s c root tw ts u p) (copied_so tw ts _ f)
