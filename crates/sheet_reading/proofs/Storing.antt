-- Nodes read into memory, one after another: what is left to read goes on from the arena that memory holds.
use Prim.Native.Nat.{ℕ, ◌+◌, suc, ◌*◌, ◌-◌, ◌^◌, ◌<◌, ◌≤◌}
use mathlib.Core.Path.{◌≡◌, refl, sym, ap, ◌∙◌, subst}
use mathlib.Core.Bool.{true}
use mathlib.Core.List.{List, []}
use native.Mathlib.Omega.{arith}
use lib.ListN.{length, take, drop, replicate, length-drop, length-replicate}
use lib.Seq.{length-take-le}
use Rattle.words.specs.declared.Layout.{Layout}
use Rattle.words.specs.declared.Layout.TheVariants as layout
use Rattle.types.specs.Node.{Node, below}
use Rattle.std.specs.Prelude.{Ok, Err}
use Rattle.types.specs.declared.refusal.Refusal.{Refusal}
use Rattle.types.specs.Out.{Out, ◌>>=◌}
use Rattle.types.specs.Arena.{Arena}
use Rattle.types.specs.Memory.{Holds}
use Rattle.types.specs.declared.Counters.{Counters}
use Rattle.node_filter.specs.Inner.Filter.{CoversLent, CoversAfter}
use Rattle.node_filter.proofs.Filters.{covers_empty}
use Rattle.names.proofs.Walking.{part}
use Rattle.types.proofs.Refusals.{ok_pair}
use Rattle.sheet_reading.specs.Sheet.{words, node_words, placed, added, node, nodes}
use Rattle.sheet_reading.specs.Inner.Steps.{ReadsWords, Stretch, new_words, CopiedAs, Adds, AddsNode, Stores, to, stop, Ready, StoresNode, CoversNodes, ReadyEmpty, StoresNodes}
use Rattle.sheet_reading.specs.Inner.Steps as steps
use Rattle.sheet_reading.proofs.Readers.{Got, got, refused}
use Rattle.sheet_reading.proofs.Measuring.{WordsAre, words_are}
use Rattle.sheet_reading.proofs.Renewing.{decode_renewed}

-- ---- outcomes taken apart, and made from equations
record Added (table : ℕ) (w s : List ℕ) (d : Counters) (o : Out Arena) : Type 0 where
  pub arena : Arena
  pub is : o ≡ Ok arena
  pub holds : Holds table w s d arena

module _ {table : ℕ} {w s : List ℕ} where
  adds_done : {o : Out Arena} {i : Out (ℕ × Counters)} {k : ℕ} {d : Counters} → Adds table w s i o → i ≡ Ok (k, d) → Added table w s d o
  adds_done {d = d} (steps.done {d = f} {b = b} H) p = let q = (ok_pair p).1 in record { arena = b; is = refl; holds = subst (λ (x : Counters). Holds table w s x b) q H }
  adds_done steps.stop p = let z : ◌≡◌ {A = ℕ} 0 1 = cc in absurd (omega arith)

  adds_stop : {o : Out Arena} {i : Out (ℕ × Counters)} {e : Refusal} → Adds table w s i o → i ≡ Err e → o ≡ Err e
  adds_stop (steps.done H) p = let z : ◌≡◌ {A = ℕ} 0 1 = cc in absurd (omega arith)
  adds_stop {e = e} (steps.stop {e = f}) p = let q : f ≡ e = cc in ap Err q

pub record Stored (bytes : List ℕ) (table : ℕ) (w s : List ℕ) (e : ℕ) (d : Counters) (o : Out (Arena × List ℕ)) : Type 0 where
  pub arena : Arena
  pub is : o ≡ Ok (arena, drop e bytes)
  pub high : e ≤ length bytes
  pub holds : Holds table w s d arena

module _ {bytes : List ℕ} {table : ℕ} {w s : List ℕ} where
  pub stores_to : {o : Out (Arena × List ℕ)} {r : Out (ℕ × Counters)} {e : ℕ} {d : Counters} → Stores bytes table w s r o → r ≡ Ok (e, d) → Stored bytes table w s e d o
  stores_to {e = e} {d = d} (to {e = f} {d = g} {b = b} h H) p =
      let (i, j) = ok_pair p in
      record { arena = b; is = ap (λ (n : ℕ). Ok (b, drop n bytes)) i; high = omega (arith, h, i); holds = subst (λ (x : Counters). Holds table w s x b) j H }
  stores_to stop p = let z : ◌≡◌ {A = ℕ} 0 1 = cc in absurd (omega arith)

  pub stores_stop : {o : Out (Arena × List ℕ)} {r : Out (ℕ × Counters)} {e : Refusal} → Stores bytes table w s r o → r ≡ Err e → o ≡ Err e
  stores_stop (to h H) p = let z : ◌≡◌ {A = ℕ} 0 1 = cc in absurd (omega arith)
  stores_stop {e = e} (stop {e = f}) p = let q : f ≡ e = cc in ap Err q

  stored_to : {o : Out (Arena × List ℕ)} {e : ℕ} {d : Counters} {b : Arena} → o ≡ Ok (b, drop e bytes) → e ≤ length bytes → Holds table w s d b → Stores bytes table w s (Ok (e, d)) o
  stored_to {e = e} {d = d} p h H = subst (Stores bytes table w s (Ok (e, d))) (sym p) (to h H)

  stored_stop : {o : Out (Arena × List ℕ)} {e : Refusal} → o ≡ Err e → Stores bytes table w s (Err e) o
  stored_stop {e = e} p = subst (Stores bytes table w s (Err e)) (sym p) stop

-- ---- the definition, case by case
module _ (l : Layout) (lw ls table : ℕ) (a : Arena) (bs : List ℕ) where
  node_stop : {e : Refusal} → node_words bs ≡ Err e → node l lw ls table a bs ≡ Err e
  unfolding node
  node_stop p = ap (λ (o : Out (List ℕ × List ℕ)). o >>= λ (r : List ℕ × List ℕ). added l lw ls table r.0 a >>= λ (b : Arena). Ok (b, r.1)) p

  node_next : {ws u : List ℕ} {o : Out Arena} → node_words bs ≡ Ok (ws, u) → added l lw ls table ws a ≡ o → node l lw ls table a bs ≡ (o >>= λ (b : Arena). Ok (b, u))
  unfolding node
  node_next {u = u} p q =
      ap (λ (o : Out (List ℕ × List ℕ)). o >>= λ (r : List ℕ × List ℕ). added l lw ls table r.0 a >>= λ (b : Arena). Ok (b, r.1)) p
      ∙ ap (λ (o : Out Arena). o >>= λ (b : Arena). Ok (b, u)) q

  module _ (k : ℕ) where
    nodes_stop : {e : Refusal} → node l lw ls table a bs ≡ Err e → nodes l lw ls table (suc k) a bs ≡ Err e
    unfolding nodes
    nodes_stop p = ap (λ (o : Out (Arena × List ℕ)). o >>= λ (r : Arena × List ℕ). nodes l lw ls table k r.0 r.1) p

    nodes_next : {b : Arena} {u : List ℕ} → node l lw ls table a bs ≡ Ok (b, u) → nodes l lw ls table (suc k) a bs ≡ nodes l lw ls table k b u
    unfolding nodes
    nodes_next p = ap (λ (o : Out (Arena × List ℕ)). o >>= λ (r : Arena × List ℕ). nodes l lw ls table k r.0 r.1) p

-- the words of a node in today's layout are added as they would be in their own
added_as : (l : Layout) (lw ls table : ℕ) (ws : List ℕ) (a : Arena) → below (2 ^ 32) ws ≡ true → added l lw ls table ws a ≡ added layout.New lw ls table (new_words l ws) a
unfolding added
added_as layout.Old lw ls table ws a e = ap (λ (o : Out Node). o >>= placed lw ls a) (decode_renewed table (length a) ws e)
added_as layout.New lw ls table ws a e = refl

-- ---- one node
module _ {bytes : List ℕ} {at : ℕ} {r : Out ℕ} (R : ReadsWords bytes at r) where
  pub node_refused : {l : Layout} {table : ℕ} {w s : List ℕ} {c : Counters} {e : Refusal} → r ≡ Err e → StoresNode l bytes at table w s c w s (Err e)
  node_refused {l} {table} {w} {s} p = record { is = λ a H. stored_stop (node_stop l (length w) (length s) table a (drop at bytes) (refused R.is p)) }

  module _ {e : ℕ} (p : r ≡ Ok e) where
    G : Got bytes at (node_words (drop at bytes)) e
    G = got R.is p

    A : WordsAre (drop at bytes) (G.says, drop e bytes)
    A = words_are (drop at bytes) (G.says, drop e bytes) G.is

    pub node_low : at ≤ e
    node_low = G.low

    pub node_high : e ≤ length bytes
    node_high = G.high

    -- the stretch has four bytes a word
    size : e - at ≡ 4 * A.count
    size = omega (arith, A.long, ap length A.rest, length-drop e bytes, length-drop at bytes, length-drop (4 * A.count) (drop at bytes), G.low, G.high)

    long : length (part bytes at e) ≡ 4 * A.count
    long = length-take-le (e - at) (drop at bytes) (omega (arith, length-drop at bytes, G.high, G.low)) ∙ size

    pub node_stretch : {new : List ℕ} → length new ≡ 66 → Stretch (part bytes at e) new
    node_stretch q = record { some = omega (arith, long, A.some); few = omega (arith, long, A.few); size = q }

    module _ {l : Layout} {new : List ℕ} {n : ℕ} (C : CopiedAs l (part bytes at e) new n) where
      count_is : n ≡ A.count
      count_is = omega (arith, C.count, long)

      pub node_room : n ≤ length new
      node_room = omega (arith, count_is, A.few, C.size)

      pub node_share : n ≡ length (take n new)
      node_share = sym (length-take-le n new node_room)

      -- the words of the node as they stand in the sheet
      ws : List ℕ
      ws = words n (part bytes at e)

      read : node_words (drop at bytes) ≡ Ok (ws, drop e bytes)
      unfolding ws
      read = G.is ∙ ap (λ (us : List ℕ). Ok (us, drop e bytes)) (A.is ∙ sym (λ i. words (count_is i) (take (size i) (drop at bytes))))

      adding : (lw ls table : ℕ) (a : Arena) → added l lw ls table ws a ≡ added layout.New lw ls table (take n new) a
      unfolding ws
      adding lw ls table a = added_as l lw ls table ws a C.small ∙ ap (λ (us : List ℕ). added layout.New lw ls table us a) (sym C.is)

      module _ {table : ℕ} {w s : List ℕ} {c : Counters} {w' s' : List ℕ} {i : Out (ℕ × Counters)} (D : AddsNode table w s c (take n new) w' s' i) where
        pub node_not_added : {x : Refusal} → i ≡ Err x → StoresNode l bytes at table w s c w' s' (Err x)
        unfolding ◌>>=◌
        node_not_added q = record { is = λ a H. stored_stop (node_next l (length w) (length s) table a (drop at bytes) read (adding (length w) (length s) table a ∙ adds_stop (D.is a H) q)) }

        pub node_added : {k : ℕ} {d : Counters} → i ≡ Ok (k, d) → StoresNode l bytes at table w s c w' s' (Ok (e, d))
        unfolding ◌>>=◌
        node_added q = record {
          is = λ a H.
              let B = adds_done (D.is a H) q in
              stored_to (node_next l (length w) (length s) table a (drop at bytes) read (adding (length w) (length s) table a ∙ B.is)) G.high B.holds;
        }

-- ---- the filter
pub nodes_refused : {w s : List ℕ} {e : Refusal} {f : List ℕ} → CoversNodes w s (Err e) f
nodes_refused = record { is = λ i d q. let z : ◌≡◌ {A = ℕ} 0 1 = cc in absurd (omega arith) }

pub nodes_told : {w s f : List ℕ} {i : Out (ℕ × Counters)} {n e : ℕ} {d : Counters} → CoversAfter w s i f → i ≡ Ok (n, d) → CoversNodes w s (Ok (e, d)) f
nodes_told {w} {s} {f} {n = n} {d = d} C q = record { is = λ k g p. subst (λ (h : Counters). CoversLent w s h f) (ok_pair p).1 (C.is n d q) }

-- ---- the loop
pub record Turn (l : Layout) (bytes : List ℕ) (first : ℕ) (w₀ s₀ : List ℕ) (table count : ℕ) (w s : List ℕ) (at : ℕ) (c : Counters) (left : ℕ) (filter : List ℕ) : Type 0 where
  pub words_long : length w ≡ length w₀
  pub starts_long : length s ≡ length s₀
  pub arena : Arena
  pub holds : Holds table w s c arena
  pub inside : at ≤ length bytes
  pub covers : CoversLent w s c filter
  pub same : nodes l (length w₀) (length s₀) table count [] (drop first bytes) ≡ nodes l (length w₀) (length s₀) table left arena (drop at bytes)

module _ {l : Layout} {bytes : List ℕ} {first : ℕ} {w₀ s₀ : List ℕ} {table count : ℕ} where
  pub turn_start : ReadyEmpty bytes first table w₀ s₀ → Turn l bytes first w₀ s₀ table count w₀ s₀ first (record { nodes = 0; words = 0 }) (count - 0) (replicate 2048 0)
  turn_start E = record { words_long = refl; starts_long = refl; arena = []; holds = E.holds; inside = E.inside; covers = covers_empty E.holds (length-replicate {A = ℕ} 2048 0); same = let e : count ≡ count - 0 = omega arith in ap (λ (k : ℕ). nodes l (length w₀) (length s₀) table k [] (drop first bytes)) e }

  module _ {w s : List ℕ} {at : ℕ} {c : Counters} {left : ℕ} {filter : List ℕ} (T : Turn l bytes first w₀ s₀ table count w s at c left filter) where
    pub turn_ready : Ready bytes at table w s c
    turn_ready = record { inside = T.inside; view = T.arena; holds = T.holds }

    pub turn_covered : CoversLent w s c filter
    turn_covered = T.covers

  module _ {w s : List ℕ} {at : ℕ} {c : Counters} {i : ℕ} {filter : List ℕ} (T : Turn l bytes first w₀ s₀ table count w s at c (count - i) filter) where
    module _ (h : i < count) {w' s' : List ℕ} {r : Out (ℕ × Counters)} (N : StoresNode l bytes at table w s c w' s' r) where
      one : Stores bytes table w' s' r (node l (length w₀) (length s₀) table T.arena (drop at bytes))
      one = subst (Stores bytes table w' s' r) (λ i. node l (T.words_long i) (T.starts_long i) table T.arena (drop at bytes)) (N.is T.arena T.holds)

      nodes_here : {o : Out (Arena × List ℕ)} → nodes l (length w₀) (length s₀) table (suc (count - i - 1)) T.arena (drop at bytes) ≡ o → nodes l (length w₀) (length s₀) table count [] (drop first bytes) ≡ o
      nodes_here p =
          let e : count - i ≡ suc (count - i - 1) = omega (arith, h) in
          T.same ∙ ap (λ (k : ℕ). nodes l (length w₀) (length s₀) table k T.arena (drop at bytes)) e ∙ p

      pub turn_stop : {e : Refusal} → r ≡ Err e → StoresNodes l bytes first table count w₀ s₀ w' s' (Err e)
      turn_stop p = record { is = stored_stop (nodes_here (nodes_stop l (length w₀) (length s₀) table T.arena (drop at bytes) (count - i - 1) (stores_stop one p))) }

      pub turn_more : {e : ℕ} {d : Counters} {filter' : List ℕ} → CoversNodes w' s' r filter' → r ≡ Ok (e, d) → length w' ≡ length w → length s' ≡ length s → Turn l bytes first w₀ s₀ table count w' s' e d (count - (i + 1)) filter'
      turn_more {e} {d} C p lw ls =
          let g : count - i - 1 ≡ count - (i + 1) = omega arith in
          let S = stores_to one p in
          record {
            words_long = lw ∙ T.words_long;
            starts_long = ls ∙ T.starts_long;
            arena = S.arena;
            holds = S.holds;
            inside = S.high;
            covers = C.is e d p;
            same = nodes_here (nodes_next l (length w₀) (length s₀) table T.arena (drop at bytes) (count - i - 1) S.is) ∙ ap (λ (n : ℕ). nodes l (length w₀) (length s₀) table n S.arena (drop e bytes)) g;
          }

    pub turn_done : count ≤ i → StoresNodes l bytes first table count w₀ s₀ w s (Ok (at, c))
    unfolding nodes
    turn_done h =
        let z : count - i ≡ 0 = omega (arith, h) in
        record { is = stored_to (T.same ∙ ap (λ (k : ℕ). nodes l (length w₀) (length s₀) table k T.arena (drop at bytes)) z) T.inside T.holds }
