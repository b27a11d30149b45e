-- `bench::order_check` meets its contract. Assumes nothing.
use borrow.Author.Tests.{lt-ltb, le-ltb}
use Rattle.refusal.specs.Checking.{◌⨾◌, need}
use Rattle.bench.proofs.order_check.Goals as goal

pub returns-then-contents-last : goal.returns-then-contents-last
unfolding ◌⨾◌ need
returns-then-contents-last c = simp (lt-ltb _ _ c.if-contents-last.true)

pub returns-then-outside_test : goal.returns-then-outside_test
unfolding ◌⨾◌ need
returns-then-outside_test c = simp (le-ltb _ _ c.if-contents-last.false, ← c.is_running.ensures, c.if-is_running.true, ← c.outside_test.ensures, c.if-outside_test.true)
