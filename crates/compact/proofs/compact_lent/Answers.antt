-- One refusal a test; past them the target is cleared.
use Rattle.compact.proofs.Hosts.{lent_over, no_root, clear_ready, lent_cleared}
use Rattle.compact.proofs.compact_lent.Goals as goal

pub returns-then-target_words-target_starts : goal.returns-then-target_words-target_starts
returns-then-target_words-target_starts c = search lent_over

pub returns-then-wide-c : goal.returns-then-wide-c
returns-then-wide-c c = search no_root

pub compact_cleared-requires : goal.compact_cleared-requires
compact_cleared-requires c = search clear_ready

pub returns : goal.returns
returns c = search lent_cleared
