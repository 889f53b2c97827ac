-- What stands for a sorted list: its only member, or the node of several.
use Prim.Native.Nat.{ℕ}
use mathlib.Core.Path.{◌≡◌, refl, sym, ap, ◌∙◌, subst}
use mathlib.Core.List.{List}
use native.Mathlib.Omega.{arith}
use lib.ListN.{length, get_or, take, replicate}
use lib.Seq.{get_or-take}
use borrow.Author.Tests.{eq-eqb, ne_eqb}
use Rattle.std.specs.Prelude.{Ok}
use Rattle.types.specs.Out.{Out}
use Rattle.types.specs.Kind.{disc}
use Rattle.types.specs.Node.{Polarity, positive, negative, members, node, kind, below}
use Rattle.types.specs.Arena.{Arena}
use Rattle.types.specs.Memory.{Holds}
use Rattle.types.specs.Reply.{reply_of}
use Rattle.types.specs.declared.Counters.{Counters}
use Rattle.node_store.specs.Intern.{intern}
use Rattle.member_lists.specs.Inner.Members.{Filled, InternsList}
use Rattle.member_lists.proofs.Closings.{stands}
use Rattle.member_lists.proofs.Copying.{room_length}
use Rattle.member_sorting.specs.Sort.{sort}
use Rattle.member_sorting.specs.Inner.{Sorting, Sorts}
use Rattle.member_sorting.proofs.Sorted.{sorted, sort_below}
use Rattle.set_op_lists.specs.SetOps.{stand_for}
use Rattle.set_op_lists.specs.Inner.{StandsFor}

module _ (lw ls : ℕ) (k : Polarity) (ms : List ℕ) (a : Arena) where
  pub stand_for_one : length ms ≡ 1 → stand_for lw ls k ms a ≡ Ok (get_or ms 0 0, a)
  unfolding stand_for
  stand_for_one e = rw (stand_for, eq-eqb (length ms) 1 e)

  pub stand_for_several : (length ms ≡ 1 → ⊥) → stand_for lw ls k ms a ≡ intern lw ls (node (members k) ms) a
  unfolding stand_for
  stand_for_several f = rw (stand_for, ne_eqb (length ms) 1 f)

module _ {w s : List ℕ} {c : Counters} {number : ℕ} {items : List ℕ} {count : ℕ} (F : Filled w s c number items count) where
  count_is : length (take count items) ≡ count
  count_is = room_length F.listing.room

  pub closing_cut : count ≡ length (take count items)
  closing_cut = sym count_is

  pub closing_sorts : {ms : List ℕ} → ms ≡ take count items → Sorting w s c ms (replicate 64 0)
  closing_sorts e =
      let G = F.listing.gathering in
      record { lent = G.lent; low = ap (below c.nodes) e ∙ G.low; few = omega (arith, ap length e, count_is, F.listing.room.few); long = refl }

  module _ {ms : List ℕ} (e : ms ≡ take count items) {list : List ℕ} (S : Sorts w s c ms list) where
    -- the list is the sort of the items in use
    sort_is : {table : ℕ} {a : Arena} → Holds table w s c a → take count list ≡ sort a (take count items)
    sort_is {table} {a} H = ap (λ (n : ℕ). take n list) (sym (ap length e ∙ count_is)) ∙ S.is table a H ∙ ap (sort a) e

    long_is : (a : Arena) → length (sort a (take count items)) ≡ count
    long_is a = (sorted a (take count items)).count ∙ count_is

    pub closed_one : count ≡ 1 → StandsFor w s c number items count w s (Ok (get_or list 0 0, c))
    closed_one q = record {
      is = λ table a k H p.
          let m : get_or (sort a (take count items)) 0 0 ≡ get_or list 0 0 = ap (λ (l : List ℕ). get_or l 0 0) (sym (sort_is H)) ∙ get_or-take count list 0 0 F.some in
          stands (get_or list 0 0) H ∙ ap (λ (n : ℕ). reply_of w s c (Ok (n, a))) (sym m) ∙ ap (reply_of w s c) (sym (stand_for_one (length w) (length s) k (sort a (take count items)) a (long_is a ∙ q)));
    }

    pub sorted_ready : Filled w s c number list count
    sorted_ready =
        let G = F.listing.gathering in
        let L = G.lent in
        record {
          listing = record {
            gathering = record { lent = L; side = G.side; kind_is = G.kind_is; low = ap (below c.nodes) (sort_is L.holds) ∙ sort_below L.view c.nodes (take count items) G.low };
            room = record { long = S.long; few = F.listing.room.few };
          };
          some = F.some;
        }

    pub closed_several : (count ≡ 1 → ⊥) → {w' s' : List ℕ} {r : Out (ℕ × Counters)} → InternsList w s c number list count w' s' r → StandsFor w s c number items count w' s' r
    closed_several f I = record {
      is = λ table a k H p.
          I.is table a k H p ∙ ap (λ (l : List ℕ). reply_of w s c (intern (length w) (length s) (node (members k) l) a)) (sort_is H)
          ∙ ap (reply_of w s c) (sym (stand_for_several (length w) (length s) k (sort a (take count items)) a (λ z. f (sym (long_is a) ∙ z))));
    }

  -- ---- the kind by name: a list is a union or an intersection
  pub as_union : number ≡ 7 → Filled w s c 7 items count
  as_union q = subst (λ (k : ℕ). Filled w s c k items count) q F

  no_union : (number ≡ 7 → ⊥) → number ≡ 8
  no_union f = go F.listing.gathering.side F.listing.gathering.kind_is
    where
      go : (k : Polarity) → number ≡ disc (kind (members k)) → number ≡ 8
      go positive q = absurd (f q)
      go negative q = q

  pub as_intersection : (number ≡ 7 → ⊥) → Filled w s c 8 items count
  as_intersection f = subst (λ (k : ℕ). Filled w s c k items count) (no_union f) F

  pub closed_union : number ≡ 7 → {w' s' : List ℕ} {r : Out (ℕ × Counters)} → StandsFor w s c 7 items count w' s' r → StandsFor w s c number items count w' s' r
  closed_union q {w'} {s'} {r} = subst (λ (k : ℕ). StandsFor w s c k items count w' s' r) (sym q)

  pub closed_intersection : (number ≡ 7 → ⊥) → {w' s' : List ℕ} {r : Out (ℕ × Counters)} → StandsFor w s c 8 items count w' s' r → StandsFor w s c number items count w' s' r
  closed_intersection f {w'} {s'} {r} = subst (λ (k : ℕ). StandsFor w s c k items count w' s' r) (sym (no_union f))
