-- The check of lent memory: node after node is read, and no arena but one that grew from those read can be what it holds.
use Prim.Native.Nat.{ℕ, zero, suc, ◌+◌, ◌-◌, ◌*◌, ◌<◌, ◌≤◌}
use mathlib.Core.Path.{◌≡◌, refl, sym, ap, ◌∙◌, subst}
use mathlib.Core.Bool.{Bool, true, false, not}
use mathlib.Core.List.{List, [], ◌∷◌, ◌++◌, append-nil}
use native.Mathlib.Omega.{arith}
use native.Mathlib.Numerals.{add-one}
use mir.Syntax.{w64}
use mir.Val.{Fits}
use lib.ListN.{length, get_or, take, drop, replicate, length-append, length-drop, length-replicate, take-append-drop}
use lib.Seq.{get_or-drop, take_at, drop_at, take_all, take-add, take-suc, length-take-le}
use lib.Dec.{eqb}
use borrow.Author.Tests.{eqb-true, eqb-false, not-true, not-false}
use Rattle.std.specs.Prelude as std
use Rattle.std.specs.Prelude.{Some, None, is_err}
use Rattle.words.specs.Words.{head_count}
use Rattle.types.specs.Out.{Out, checked, option_of}
use Rattle.types.specs.Node.{Node, encode, guess, formed, below, well, decode, IsNode}
use Rattle.types.specs.Arena as mem
use Rattle.types.specs.Arena.{Arena, absent, sound, Ext, here, more}
use Rattle.types.specs.Memory.{flat, heads, padded, Holds, span, arena_of}
use Rattle.types.specs.declared.Counters.{Counters}
use Rattle.types.proofs.Tests.{true_false}
use Rattle.types.proofs.Refusals.{no_err_unit}
use Rattle.types.proofs.Lists.{below_cons}
use Rattle.types.proofs.Nodes.{guess_encode, length_encode}
use Rattle.types.proofs.Decodes.{well_parts, decode_ok, faultless}
use Rattle.types.proofs.Growth.{ext_tail, ext_length}
use Rattle.types.proofs.Sound.{sound_well, sound_fresh, sound_more, sound_ext}
use Rattle.types.proofs.Memories.{span_encode, arena_of_holds, unique, unsound}
use Rattle.types.proofs.Addresses.{length_heads, ext_flat, word_room, start_room, there, start_at, from_start}
use Rattle.node_store.specs.Inner.Stored.{Searched, FoundIn}
use Rattle.node_filter.specs.Inner.Hash.{hash_of}
use Rattle.node_filter.specs.Inner.Filter.{Sets, Covers, CoversLent}
use Rattle.node_filter.proofs.Filters.{covers_none, covers_more}
use Rattle.soundness.specs.Inner.Sound.{is_some, is_sound, Limits, Within}
use Rattle.soundness.specs.Inner.Reading.{Begun, Passed, Marked, NextNode, Next, NextSets}

-- ---- zeros
below_one : (l : List ℕ) → below 1 l ≡ true → l ≡ replicate (length l) 0
below_one [] e = refl
below_one (x ∷ l) e =
    let p = below_cons 1 x l e in
    let z : x ≡ 0 = let h = p.0 in omega arith in
    λ i. z i ∷ below_one l p.1 i

zeros_below : (k : ℕ) → below 1 (replicate k 0) ≡ true
unfolding below
zeros_below zero = refl
zeros_below (suc k) = zeros_below k

rest_is : (l : List ℕ) (k : ℕ) → take (length l - k) (drop k l) ≡ drop k l
rest_is l k = take_all (length l - k) (drop k l) (omega (arith, length-drop k l))

-- a list that is all in use
exact : (l p : List ℕ) → l ≡ p → l ≡ padded (length l) p
exact l p e = let k : length l - length p ≡ 0 = let q = ap length e in omega arith in e ∙ sym (append-nil p) ∙ ap (λ (i : ℕ). p ++ replicate i 0) (sym k)

unpad : (l p : List ℕ) → l ≡ padded (length l) p → length l ≡ length p → l ≡ p
unpad l p e q = let k : length l - length p ≡ 0 = omega arith in e ∙ ap (λ (i : ℕ). p ++ replicate i 0) k ∙ append-nil p

refill : (l : List ℕ) (k : ℕ) (p : List ℕ) → k ≡ length p → below 1 (drop k l) ≡ true → take k l ≡ p → l ≡ padded (length l) p
refill l k p q z e =
    sym (take-append-drop k l) ∙ ap (λ (x : List ℕ). x ++ drop k l) e
    ∙ ap (λ (x : List ℕ). p ++ x) (below_one (drop k l) z ∙ ap (λ (i : ℕ). replicate i 0) (length-drop k l ∙ ap (λ (i : ℕ). length l - i) q))

-- ---- the limits
module _ {w s : List ℕ} {c : Counters} where
  outside : (Limits w s c → ⊥) → Within w s c false
  outside f = record { holds = λ e. absurd (true_false (sym e)); fails = λ e. f }

  pub over_words : 16384 < length w → Within w s c false
  over_words h = outside (λ L. omega (arith, L.few_words))

  pub over_starts : 4096 < length s → Within w s c false
  over_starts h = outside (λ L. omega (arith, L.few_starts))

  pub over_used : length w < c.words → Within w s c false
  over_used h = outside (λ L. omega (arith, L.word_room))

  pub over_nodes : length s < c.nodes → Within w s c false
  over_nodes h = outside (λ L. omega (arith, L.start_room))

  pub word_left : {r : Bool} → r ≡ below 1 (take (length w - c.words) (drop c.words w)) → not r ≡ true → Within w s c false
  word_left {r} e f = outside (λ L. true_false (sym L.word_zeros ∙ ap (below 1) (sym (rest_is w c.words)) ∙ sym e ∙ not-true r f))

  pub limits : {r q : Bool} → length w ≤ 16384 → length s ≤ 4096 → c.words ≤ length w → c.nodes ≤ length s
      → r ≡ below 1 (take (length w - c.words) (drop c.words w)) → not r ≡ false
      → q ≡ below 1 (take (length s - c.nodes) (drop c.nodes s)) → Within w s c q
  limits {r} {q} h i j k e f g = record {
    holds = λ z. record {
      few_words = h;
      few_starts = i;
      word_room = j;
      start_room = k;
      word_zeros = ap (below 1) (sym (rest_is w c.words)) ∙ sym e ∙ not-false r f;
      start_zeros = ap (below 1) (sym (rest_is s c.nodes)) ∙ sym g ∙ z;
    };
    fails = λ z L. true_false (sym L.start_zeros ∙ ap (below 1) (sym (rest_is s c.nodes)) ∙ sym g ∙ z);
  }

  -- an arena keeps them
  holds_limits : (table : ℕ) (b : Arena) → Holds table w s c b → Limits w s c
  holds_limits table b H = record {
    few_words = H.few_words;
    few_starts = H.few_starts;
    word_room = word_room H;
    start_room = start_room H;
    word_zeros = ap (below 1) (ap (drop c.words) H.words ∙ drop_at (flat b) _ c.words (sym H.total)) ∙ zeros_below (length w - length (flat b));
    start_zeros = ap (below 1) (ap (drop c.nodes) H.starts ∙ drop_at (heads b) _ c.nodes (length_heads b ∙ sym H.nodes)) ∙ zeros_below (length s - length (heads b));
  }

module _ (table : ℕ) (w s : List ℕ) (c : Counters) where
  none_holds : ((b : Arena) → Holds table w s c b → ⊥) → false ≡ is_sound table w s c
  unfolding is_sound
  none_holds f = sym (ap is_some (unsound f))

  pub not_within : {r : Bool} → Within w s c r → not r ≡ true → false ≡ is_sound table w s c
  not_within {r} W e = none_holds (λ b H. W.fails (not-true r e) (holds_limits table b H))

pub is_within : {w s : List ℕ} {c : Counters} {r : Bool} → Within w s c r → not r ≡ false → Limits w s c
is_within {r = r} W e = W.holds (not-false r e)

-- ---- the next node
-- the words that the head at this place counts
abbrev judged : List ℕ → ℕ → ℕ → List ℕ
judged w at y = take (at + (1 + y) - at) (drop at w)

none_some : {k : ℕ} → ◌≡◌ {A = std.Option ℕ} None (Some k) → ⊥
none_some e = let z : ◌≡◌ {A = ℕ} 0 1 = cc in omega arith

some_same : {m n : ℕ} → ◌≡◌ {A = std.Option ℕ} (Some m) (Some n) → m ≡ n
some_same e = cc

module _ {table : ℕ} {w : List ℕ} {a : Arena} {at used k : ℕ} (N : NextNode table w a at used k) where
  next_formed : formed N.node ≡ true
  next_formed = (well_parts table (length a) N.node (sound_well table N.node a N.good)).formed_so

  next_split : drop at w ≡ encode N.node ++ drop k (drop at w)
  next_split = sym (take-append-drop k (drop at w)) ∙ ap (λ (l : List ℕ). l ++ drop k (drop at w)) N.words

  next_span : span (drop at w) ≡ k
  next_span = ap span next_split ∙ span_encode N.node next_formed _ ∙ sym N.long

  next_guess : guess (take (span (drop at w)) (drop at w)) ≡ N.node
  next_guess = ap (λ (i : ℕ). guess (take i (drop at w))) next_span ∙ ap guess N.words ∙ guess_encode N.node next_formed

  -- its head counts its words
  next_len : {y : ℕ} → y ≡ head_count (get_or w at 0) → k ≡ 1 + y
  next_len e =
      let z : at + 0 ≡ at = omega arith in
      let g : get_or (drop at w) 0 0 ≡ get_or w at 0 = get_or-drop at w 0 0 ∙ ap (λ (i : ℕ). get_or w i 0) z in
      omega (arith, next_span, ap head_count g)

pub count_fits : {y : ℕ} (h : ℕ) → y ≡ head_count h → Fits w64 (1 + y)
unfolding head_count
count_fits h e = omega arith

-- the words counted are the next node's
next_node : {table used n : ℕ} {w : List ℕ} {a : Arena} {at k : ℕ} (y : ℕ) → y ≡ head_count (get_or w at 0) → n ≡ length a → (N : NextNode table w a at used k) → IsNode table n (judged w at y) N.node
next_node {table} {w = w} {a = a} {at = at} {k = k} y e q N =
    let l : at + (1 + y) - at ≡ k = omega (arith, next_len N e) in
    record {
      words = ap (λ (i : ℕ). take i (drop at w)) l ∙ N.words;
      good = ap (λ (i : ℕ). well table i N.node) q ∙ sound_well table N.node a N.good;
    }

module _ {table : ℕ} {w s : List ℕ} {c : Counters} {n at : ℕ} where
  none_next : ((a : Arena) → Begun table w s n at a → (k : ℕ) → NextNode table w a at c.words k → ⊥) → Next table w s c n at None
  none_next f = record { found = λ a H k e. absurd (none_some e); missing = λ a H z. f a H }

  pub next_end : c.words ≤ at → Next table w s c n at None
  next_end h = none_next (λ a H k N. omega (arith, N.room, N.long, length_encode N.node))

  pub next_long : {y : ℕ} → y ≡ head_count (get_or w at 0) → c.words - at < 1 + y → Next table w s c n at None
  next_long e h = none_next (λ a H k N. omega (arith, N.room, next_len N e))

  -- words without a fault have a head to search by
  pub next_searched : (y : ℕ) {f : Out (Unit {0})} {q : Bool} → Passed table w s c n at → f ≡ checked (decode table n (judged w at y)) → q ≡ is_err f → q ≡ false → Searched (take at w) (take n s) (record { nodes = n; words = at }) (judged w at y)
  next_searched y {f} P p e z =
      let D = faultless table n (judged w at y) (sym p ∙ no_err_unit f (sym e ∙ z)) in
      record { lent = record { table = table; view = P.view; holds = P.begun }; headed = omega (arith, ap length D.is.words, length_encode D.node) }

  -- and the bits of the nodes read are set
  pub next_covered : {filter : List ℕ} → Marked table w s c n at filter → CoversLent (take at w) (take n s) (record { nodes = n; words = at }) filter
  next_covered {filter} M = record { long = M.covers.long; is = λ t a H. subst (Covers filter) (unique M.passed.begun H) M.covers }

  module _ {y : ℕ} (e : y ≡ head_count (get_or w at 0)) where
    pub next_fault : {r : Out (Unit {0})} {q : Bool} → r ≡ checked (decode table n (judged w at y)) → q ≡ is_err r → q ≡ true → Next table w s c n at None
    next_fault p f z = none_next (λ a H k N.
        true_false (sym z ∙ f ∙ ap is_err (p ∙ ap checked (decode_ok table n (judged w at y) N.node (next_node y e H.nodes N)))))

    module _ {f : Out (Unit {0})} {q : Bool} (p : f ≡ checked (decode table n (judged w at y))) (u : q ≡ is_err f) (z : q ≡ false) where
      module _ {r : std.Option ℕ} (F : FoundIn (take at w) (take n s) (record { nodes = n; words = at }) (judged w at y) r) where
        pub next_twice : {i : ℕ} → r ≡ Some i → Next table w s c n at None
        next_twice q = none_next (λ a H k N.
            true_false (sym (sound_fresh table N.node a N.good)
            ∙ ap absent (sym (F.is table a N.node H (next_formed N) (next_node y e H.nodes N).words) ∙ ap option_of q)))

        follows : r ≡ None → Passed table w s c n at → 1 + y ≤ c.words - at → (a : Arena) → Begun table w s n at a → NextNode table w a at c.words (1 + y)
        follows q P h a H =
            let D = faultless table n (judged w at y) (sym p ∙ no_err_unit f (sym u ∙ z)) in
            let x = D.node in
            let l : at + (1 + y) - at ≡ 1 + y = omega arith in
            let m : length (take (1 + y) (drop at w)) ≡ 1 + y = length-take-le (1 + y) (drop at w) (omega (arith, length-drop at w, P.limits.word_room, P.low)) in
            let u : take (1 + y) (drop at w) ≡ encode x = ap (λ (i : ℕ). take i (drop at w)) (sym l) ∙ D.is.words in
            record {
              node = x;
              words = u;
              long = sym m ∙ ap length u;
              room = omega (arith, P.low);
              good = sound_more table x a (ap (λ (i : ℕ). well table i x) (sym H.nodes) ∙ D.is.good)
                  (ap absent (sym (F.is table a x H (well_parts table n x D.is.good).formed_so D.is.words) ∙ ap option_of q)) H.good;
            }

        pub next_good : r ≡ None → Passed table w s c n at → 1 + y ≤ c.words - at → Next table w s c n at (Some (1 + y))
        next_good q P h = record {
          missing = λ a H e. absurd (none_some (sym e));
          found = λ a H k e. subst (NextNode table w a at c.words) (some_same e) (follows q P h a H);
        }

  module _ (P : Passed table w s c n at) where
    pub passed_words : at ≡ length (take at w)
    passed_words = sym (length-take-le at w (omega (arith, P.low, P.limits.word_room)))

    pub passed_starts : n ≡ length (take n s)
    passed_starts = sym (length-take-le n s (omega (arith, P.turn, P.limits.start_room)))

-- ---- arenas that grew from the same one
ext_nil : (b : Arena) → Ext [] b
ext_nil [] = here
ext_nil (x ∷ b) = more x (ext_nil b)

ext_drop : (a b : Arena) → Ext a b → a ≡ drop (length b - length a) b
ext_drop a b here = let e : length a - length a ≡ 0 = omega arith in rw e
ext_drop a b (more {a = d} x f) = let h = ext_length a d f in let e : suc (length d) - length a ≡ suc (length d - length a) = omega arith in rw e (ext_drop a d f)

ext_same : {a d b : Arena} → Ext a b → Ext d b → length a ≡ length d → a ≡ d
ext_same {a} {d} {b} f g e = ext_drop a b f ∙ ap (λ (k : ℕ). drop (length b - k) b) e ∙ sym (ext_drop d b g)

-- ---- the nodes read so far
pub record Upto (table : ℕ) (w s : List ℕ) (c : Counters) (n at : ℕ) : Type 0 where
  pub passed : Passed table w s c n at
  pub only : (b : Arena) → Holds table w s c b → Ext passed.view b

module _ {table : ℕ} {w s : List ℕ} {c : Counters} where
  pub upto_start : Limits w s c → Upto table w s c 0 0
  unfolding flat heads sound
  upto_start L = record {
    only = λ b H. ext_nil b;
    passed = record {
      limits = L;
      low = omega arith;
      turn = omega arith;
      view = [];
      begun = record { few_words = omega arith; few_starts = omega arith; nodes = refl; total = refl; words = refl; starts = refl; good = refl };
    };
  }

  module _ {n at : ℕ} (U : Upto table w s c n at) where
    abbrev P : Passed table w s c n at
    P = U.passed

    abbrev L : Limits w s c
    L = U.passed.limits

    pub in_starts : n < c.nodes → n < length s
    in_starts h = omega (arith, L.start_room)

    pub start_fits : n < c.nodes → Fits w64 (n * 4)
    start_fits h = omega (arith, L.start_room, L.few_starts)

    words_are : take at w ≡ flat P.view
    words_are = unpad (take at w) (flat P.view) P.begun.words (sym (passed_words P) ∙ P.begun.total)

    starts_are : take n s ≡ heads P.view
    starts_are = unpad (take n s) (heads P.view) P.begun.starts (sym (passed_starts P) ∙ P.begun.nodes ∙ sym (length_heads P.view))

    -- what any arena that memory holds has at n
    module _ (b : Arena) (H : Holds table w s c b) (h : n < c.nodes) where
      older_is : (there H n h).older ≡ P.view
      older_is = ext_same (ext_tail (there H n h).ext) (U.only b H) ((there H n h).count ∙ P.begun.nodes)

      grown : Ext (mem.at b n ∷ P.view) b
      grown = subst (λ (d : Arena). Ext (mem.at b n ∷ d) b) older_is (there H n h).ext

      start_is : get_or s n 0 ≡ at
      start_is = start_at H n h ∙ ap (λ (d : Arena). length (flat d)) older_is ∙ sym P.begun.total

      the_next : NextNode table w P.view at c.words (length (encode (mem.at b n)))
      unfolding flat
      the_next =
          let x = encode (mem.at b n) in
          let B = ext_flat grown in
          record {
            node = mem.at b n;
            long = refl;
            good = sound_ext table grown H.good;
            words = ap (λ (i : ℕ). take (length x) (drop i w)) (sym start_is) ∙ ap (take (length x)) (from_start H n h) ∙ take_at x _ _ refl;
            room = omega (arith, H.total, P.begun.total, ap length B.is, length-append (flat P.view ++ x) B.rest, length-append (flat P.view) x);
          }

    pub bad_start : {x : ℕ} → n < c.nodes → x ≡ get_or s n 0 → (x ≡ at → ⊥) → false ≡ is_sound table w s c
    bad_start h e f = none_holds table w s c (λ b H. f (e ∙ start_is b H h))

    pub bad_node : {r : std.Option ℕ} → n < c.nodes → Next table w s c n at r → r ≡ None → false ≡ is_sound table w s c
    bad_node h N z = none_holds table w s c (λ b H. N.missing P.view P.begun z _ (the_next b H h))

    module _ {o : std.Option ℕ} (N : Next table w s c n at o) {r : ℕ} (z : o ≡ Some r) where
      it : NextNode table w P.view at c.words r
      it = N.found P.view P.begun r z

      pub sum_fits : Fits w64 (at + r)
      sum_fits = omega (arith, it.room, L.word_room, L.few_words)

      words_next : take (at + r) w ≡ flat (it.node ∷ P.view)
      unfolding flat
      words_next = take-add at r w ∙ ap (λ (l : List ℕ). l ++ take r (drop at w)) words_are ∙ ap (λ (l : List ℕ). flat P.view ++ l) it.words

      starts_next : n < c.nodes → get_or s n 0 ≡ at → take (n + 1) s ≡ heads (it.node ∷ P.view)
      unfolding heads
      starts_next h e =
          ap (λ (i : ℕ). take i s) (add-one n) ∙ take-suc s n 0 (in_starts h)
          ∙ ap (λ (l : List ℕ). l ++ (get_or s n 0 ∷ [])) starts_are
          ∙ ap (λ (i : ℕ). heads P.view ++ (i ∷ [])) (e ∙ P.begun.total)

      pub upto_more : {x : ℕ} → n < c.nodes → x ≡ get_or s n 0 → x ≡ at → Upto table w s c (n + 1) (at + r)
      unfolding the_next
      upto_more h e q =
          let m = words_next in
          let p = starts_next h (sym e ∙ q) in
          let lw : length (take (at + r) w) ≡ at + r = length-take-le (at + r) w (omega (arith, it.room, L.word_room)) in
          record {
            only = λ b H. subst (λ (y : Node). Ext (y ∷ P.view) b) (sym (next_guess (the_next b H h)) ∙ next_guess it) (grown b H h);
            passed = record {
              limits = L;
              low = it.room;
              turn = omega arith;
              view = it.node ∷ P.view;
              begun = record {
                few_words = omega (arith, L.few_words, L.word_room, it.room);
                few_starts = omega (arith, L.few_starts, L.start_room, length-take-le (n + 1) s (omega (arith, L.start_room)));
                nodes = omega (arith, P.begun.nodes);
                total = sym lw ∙ ap length m;
                words = exact _ _ m;
                starts = exact _ _ p;
                good = it.good;
              };
            };
          }

    full : at ≡ c.words → n ≡ c.nodes → Holds table w s c P.view
    full e q =
        let T = P.begun in
        record {
          few_words = L.few_words;
          few_starts = L.few_starts;
          nodes = sym q ∙ T.nodes;
          total = sym e ∙ T.total;
          good = T.good;
          words = refill w c.words (flat P.view) (sym e ∙ T.total) L.word_zeros (ap (λ (i : ℕ). take i w) (sym e) ∙ words_are);
          starts = refill s c.nodes (heads P.view) (sym q ∙ T.nodes ∙ sym (length_heads P.view)) L.start_zeros (ap (λ (i : ℕ). take i s) (sym q) ∙ starts_are);
        }

    pub upto_done : c.nodes ≤ n → eqb at c.words ≡ is_sound table w s c
    unfolding is_sound
    upto_done h = go (eqb at c.words) refl
      where
        go : (b : Bool) → eqb at c.words ≡ b → b ≡ is_some (arena_of table w s c)
        go true e = sym (ap is_some (arena_of_holds (full (eqb-true at c.words e) (omega (arith, P.turn)))))
        go false e = sym (ap is_some (unsound (λ b H.
            let q : length P.view ≡ length b = omega (arith, P.turn, H.nodes, P.begun.nodes) in
            eqb-false at c.words e (P.begun.total ∙ ap (λ (d : Arena). length (flat d)) (ext_same (U.only b H) here q) ∙ sym H.total))))

-- ---- with their bits set
pub record Reading (table : ℕ) (w s : List ℕ) (c : Counters) (n at : ℕ) (filter : List ℕ) : Type 0 where
  pub upto : Upto table w s c n at
  pub covers : Covers filter upto.passed.view

module _ {table : ℕ} {w s : List ℕ} {c : Counters} where
  pub reading_start : Limits w s c → Reading table w s c 0 0 (replicate 2048 0)
  unfolding upto_start
  reading_start L = record { upto = upto_start L; covers = covers_none (length-replicate {A = ℕ} 2048 0) }

  module _ {n at : ℕ} {filter : List ℕ} (R : Reading table w s c n at filter) where
    pub reading_marked : Marked table w s c n at filter
    reading_marked = record { passed = R.upto.passed; covers = R.covers }

    module _ {o : std.Option ℕ} (N : Next table w s c n at o) {r : ℕ} (z : o ≡ Some r) where
      pub reading_more : {x : ℕ} {filter' : List ℕ} → NextSets w at filter o filter' → n < c.nodes → x ≡ get_or s n 0 → x ≡ at → Reading table w s c (n + 1) (at + r) filter'
      unfolding upto_more
      reading_more S h e q =
          let I = it R.upto N z in
          record {
            upto = upto_more R.upto N z h e q;
            covers = covers_more (S.is r z) I.node R.covers (ap hash_of I.words);
          }

-- ---- the bits that are set with a node
pub none_set : {w : List ℕ} {at : ℕ} {filter filter' : List ℕ} → NextSets w at filter None filter'
none_set = record { is = λ k e. absurd (none_some e) }

pub node_set : {w : List ℕ} {at : ℕ} (y : ℕ) {h : ℕ} {filter filter' : List ℕ} → h ≡ hash_of (judged w at y) → Sets filter h filter' → NextSets w at filter (Some (1 + y)) filter'
node_set {w} {at} y {filter = filter} {filter'} e S =
    let l : at + (1 + y) - at ≡ 1 + y = omega arith in
    record { is = λ k q. subst (λ (k : ℕ). Sets filter k filter') (e ∙ ap (λ (i : ℕ). hash_of (take i (drop at w))) (l ∙ some_same q)) S }
