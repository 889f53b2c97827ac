-- What `structurally_eq` answers: the left's 1 and 2, the right's, 6 for either root, and then whether the two are equal (01, "Who can
-- cause which number").
use Rattle.std.specs.Prelude.{ℕ, Bool, List, Ok}
use Rattle.types.specs.Out.{Out}
use Rattle.types.specs.Arena.{Arena}
use Rattle.types.specs.Reply.{rooted}
use Rattle.types.specs.declared.Counters.{Counters}
use Rattle.names.specs.Table.{Name}
use Rattle.soundness.specs.Lent.{lent_to}
use Rattle.equal.specs.Equal.{equal}

-- after 6 for either root
unfoldable pub equal_roots : ℕ → ℕ → List Name → Arena → List Name → Arena → Out Bool
unfolding rooted equal
equal_roots m n ns a ms b = rooted m (λ (x : Arena). rooted n (λ (y : Arena). Ok (equal ns x m ms y n)) b) a

unfoldable pub equal_reply : List ℕ → List ℕ → List ℕ → Counters → ℕ → List ℕ → List ℕ → List ℕ → Counters → ℕ → Out Bool
unfolding lent_to equal_roots
equal_reply t w s c m u v r d n =
    lent_to t w s c (λ (ns : List Name) (a : Arena). lent_to u v r d (λ (ms : List Name) (b : Arena). equal_roots m n ns a ms b))
