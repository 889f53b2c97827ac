-- What stands for a list: the member that decides it, the only one, or the node of several.
use Prim.Native.Nat.{ℕ, ◌<◌, ◌≤◌}
use mathlib.Core.Path.{◌≡◌, refl, sym, ap, ◌∙◌, subst}
use mathlib.Core.Bool.{true}
use mathlib.Core.List.{List, [], ◌∷◌}
use native.Mathlib.Omega.{arith}
use lib.ListN.{length, get_or, take, replicate}
use lib.Seq.{length-take-le, take_all, take-suc}
use borrow.Author.Tests.{eqb-true}
use Rattle.std.specs.Prelude as std
use Rattle.std.specs.Prelude.{Ok, Err, Some, None}
use Rattle.types.specs.declared.refusal.Refusal.{Refusal}
use Rattle.types.specs.Out.{Out, ◌>>=◌}
use Rattle.types.specs.Kind.{disc, body_count}
use Rattle.types.specs.Node.{Polarity, positive, negative, members, bound, Node, node, tag, children, kind, child_words_in, below, formed}
use Rattle.types.specs.Arena.{Arena, at, sound}
use Rattle.types.specs.Places.{opposite}
use Rattle.types.specs.Memory.{Holds}
use Rattle.types.specs.Reply.{reply_of}
use Rattle.types.specs.declared.Counters.{Counters}
use Rattle.types.proofs.Lists.{below_at}
use Rattle.types.proofs.Nodes.{nil, formed_parts}
use Rattle.types.proofs.Sound.{at_formed}
use Rattle.node_store.specs.Intern.{intern, left}
use Rattle.node_store.proofs.Additions.{finished}
use Rattle.recursion.specs.Jobs.{Job}
use Rattle.recursion.proofs.Interning.{At, node_is, intern_there}
use Rattle.recursion.proofs.Members.{each_member, member_below}
use Rattle.simplification.specs.Pass.{member_list, close, gather}
use Rattle.simplification.proofs.Members.{decided_if}
use Rattle.simplification.proofs.Becoming.{Inside, brought_inside}
use Rattle.simplification.proofs.Applying.{gather_decided, gather_open}
use Rattle.member_lists.specs.Inner.Members.{grown_out, Gathering, Flattening, Flattens, Decides, Listing, Filled, InternsList, Finishes, ClosesOpen}
use Rattle.member_lists.specs.Inner.Closed.{Closing, ClosesTo, done, emptied, Closes}
use Rattle.member_lists.proofs.MemberBits.{growing_none}
use Rattle.member_lists.proofs.Copying.{room_length}

-- ---- the items in use
module _ (items : List ℕ) (count : ℕ) where
  pub items_cut : count < length items → count ≡ length (take count items)
  items_cut l = sym (length-take-le count items (omega arith))

  pub items_all : length items ≤ count → items ≡ take count items
  items_all l = sym (take_all count items l)

-- a number that was there before
pub stands : {table : ℕ} {w s : List ℕ} {c : Counters} {a : Arena} (n : ℕ) → Holds table w s c a → left c (Ok (n, c)) w s ≡ reply_of w s c (Ok (n, a))
unfolding reply_of
stands {w = w} {s = s} {a = a} n H = finished a (length w) (length s) refl H.nodes H.total H.words H.starts

-- ---- none, one, several
close_several : (lw ls : ℕ) (k : Polarity) (first : Job) (l : List ℕ) (a : Arena) → 2 ≤ length l → close lw ls k first l a ≡ intern lw ls (node (members k) l) a
unfolding close
close_several lw ls k first [] a h = absurd (omega arith)
close_several lw ls k first (m ∷ []) a h = absurd (omega arith)
close_several lw ls k first (m ∷ n ∷ ms) a h = refl

module _ {w s : List ℕ} {c : Counters} {number : ℕ} {items : List ℕ} {count : ℕ} where
  pub finish_none : count ≡ 0 → Finishes w s c number items count w s None
  unfolding close
  finish_none e = record {
    is = λ table a k first H q. emptied (ap (λ (n : ℕ). close (length w) (length s) k first (take n items) a) e) refl refl;
  }

  pub finish_one : Listing w s c number items count → count ≡ 1 → Finishes w s c number items count w s (Some (Ok (get_or items 0 0, c)))
  unfolding close
  finish_one L e = record {
    is = λ table a k first H q.
        let one : take count items ≡ get_or items 0 0 ∷ [] = ap (λ (n : ℕ). take n items) e ∙ take-suc items 0 0 (omega (arith, L.room.long)) in
        done (stands (get_or items 0 0) H ∙ ap (λ (l : List ℕ). reply_of w s c (close (length w) (length s) k first l a)) (sym one));
  }

  module _ (L : Listing w s c number items count) (f : count ≡ 0 → ⊥) where
    pub finish_ready : Filled w s c number items count
    finish_ready = record { listing = L; some = omega arith }

    pub finish_several : (count ≡ 1 → ⊥) → {w' s' : List ℕ} {r : Out (ℕ × Counters)} → InternsList w s c number items count w' s' r → Finishes w s c number items count w' s' (Some r)
    finish_several g I = record {
      is = λ table a k first H q.
          done (I.is table a k H q ∙ ap (reply_of w s c) (sym (close_several (length w) (length s) k first (take count items) a (omega (arith, room_length L.room)))));
    }

-- ---- the whole
formed_bound : (k : Polarity) (cs : List ℕ) → formed (node (bound k) cs) ≡ true → cs ≡ []
unfolding body_count child_words_in
formed_bound positive cs e = nil cs (eqb-true (length cs) 0 (formed_parts (bound positive) cs e).counted)
formed_bound negative cs e = nil cs (eqb-true (length cs) 0 (formed_parts (bound negative) cs e).counted)

-- a bound of a sound arena is found under its number
bound_at : (table : ℕ) (a : Arena) → sound table a ≡ true → (n : ℕ) → n < length a → (k : Polarity) → tag (at a n) ≡ bound k → At a n (node (bound k) [])
bound_at table a h n l k e =
    let x = node_is (at a n) e in
    record { inside = l; is = x ∙ ap (node (bound k)) (formed_bound k (children (at a n)) (subst (λ (y : Node). formed y ≡ true) x (at_formed table a h n l))) }

module _ {w s : List ℕ} {c : Counters} {number : ℕ} {ms : List ℕ} where
  inside : Gathering w s c number ms → (table : ℕ) (a : Arena) → Holds table w s c a → Inside a ms
  inside G table a H = each_member (λ (m : ℕ). m < length a) (length ms) ms refl (λ i l. omega (arith, H.nodes, below_at c.nodes ms G.low i l))

  pub open_flattens : Gathering w s c number ms → Flattening w s c number ms (replicate 64 0) (replicate 64 0)
  open_flattens G = record { gathering = G; growing = growing_none }

  module _ {items₀ met₀ items met : List ℕ} {r : Out ℕ} (F : Flattens w s c number ms items₀ 0 met₀ items met r) where
    -- the list that was made, or 8
    made : (g : Out ℕ) → r ≡ g → (table : ℕ) (a : Arena) (k : Polarity) → Holds table w s c a → number ≡ disc (kind (members k)) → member_list k a ms ≡ grown_out items g
    unfolding member_list
    made g f table a k H q = sym (F.is table a k H q).is ∙ ap (grown_out items) f

    pub open_full : {e : Refusal} → r ≡ Err e → ClosesOpen w s c number ms w s (Some (Err e))
    unfolding reply_of ◌>>=◌
    open_full {e} f = record {
      is = λ table a k first H q. done (ap (λ (o : Out (List ℕ)). reply_of w s c (o >>= λ (l : List ℕ). close (length w) (length s) k first l a)) (sym (made (Err e) f table a k H q)));
    }

    module _ {count : ℕ} (f : r ≡ Ok count) where
      pub open_listing : Gathering w s c number ms → Listing w s c number items count
      open_listing G =
          let H = G.lent.holds in
          let a = G.lent.view in
          let m = made (Ok count) f G.lent.table a G.side H G.kind_is in
          let b = member_below (length a) (take count items) (brought_inside G.lent.table a H.good G.side ms (inside G G.lent.table a H) (take count items) m) in
          record {
            gathering = record { lent = G.lent; side = G.side; kind_is = G.kind_is; low = subst (λ (n : ℕ). below n (take count items) ≡ true) (sym H.nodes) b };
            room = ((F.is G.lent.table a G.side H G.kind_is).growing count f).room;
          }

      pub open_finished : {w' s' : List ℕ} {o : std.Option (Out (ℕ × Counters))} → Finishes w s c number items count w' s' o → ClosesOpen w s c number ms w' s' o
      unfolding ◌>>=◌
      open_finished {w'} {s'} {o} E = record {
        is = λ table a k first H q.
            subst (λ (x : Out (List ℕ)). ClosesTo w s c w' s' o (x >>= λ (l : List ℕ). close (length w) (length s) k first l a) (first a)) (sym (made (Ok count) f table a k H q)) (E.is table a k first H q);
      }

module _ {w s : List ℕ} {c : Counters} {number : ℕ} {items : List ℕ} {count : ℕ} (C : Closing w s c number items count) {ms : List ℕ} (e : ms ≡ take count items) where
  pub closing_gathers : Gathering w s c number ms
  closing_gathers = record { lent = C.lent; side = C.side; kind_is = C.kind_is; low = ap (below c.nodes) e ∙ C.low }

  -- what is said of the members is said of the items in use
  answered : {w' s' : List ℕ} {r : std.Option (Out (ℕ × Counters))} → ((table : ℕ) (a : Arena) (k : Polarity) (first : Job) → Holds table w s c a → number ≡ disc (kind (members k))
      → ClosesTo w s c w' s' r (gather (length w) (length s) k first ms a) (first a)) → Closes w s c number items count w' s' r
  answered {w'} {s'} {r} f = record {
    is = λ table a k first H q. subst (λ (l : List ℕ). ClosesTo w s c w' s' r (gather (length w) (length s) k first l a) (first a)) e (f table a k first H q);
  }

  module _ {d : std.Option ℕ} (D : Decides w s c number ms d) where
    pub closed_decided : {n : ℕ} → d ≡ Some n → Closes w s c number items count w s (Some (Ok (n, c)))
    closed_decided {n} p = answered (λ table a k first H q.
        let F = D.by n p table a k H q in
        let B = bound_at table a H.good n (inside closing_gathers table a H n F.0) (opposite k) F.1 in
        done (stands n H
        ∙ ap (reply_of w s c) (sym (gather_decided (length w) (length s) k first ms a (decided_if k a ms n F.0 F.1) ∙ intern_there (length w) (length s) table (node (bound (opposite k)) []) a H.good n B))))

    pub closed_open : d ≡ None → {w' s' : List ℕ} {r : std.Option (Out (ℕ × Counters))} → ClosesOpen w s c number ms w' s' r → Closes w s c number items count w' s' r
    closed_open p {w'} {s'} {r} O = answered (λ table a k first H q.
        subst (λ (x : Out (ℕ × Arena)). ClosesTo w s c w' s' r x (first a)) (sym (gather_open (length w) (length s) k first ms a (D.not p table a k H q))) (O.is table a k first H q))
