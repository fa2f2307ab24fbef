-- `next_begin` meets its contract: the first begin tag's byte of what lies behind the position. Assumes nothing.
use Rattle.std.proofs.Common.{rules, ◌≡◌, ℕ, List}
use borrow.Author.Tests.{tests}
use Rattle.std.proofs.lemmas.Iterator.{YieldsList-from_slice, IsFirst-from_position}
use Rattle.salvaging.proofs.FirstTag.{no-tag, none-behind, first-behind}
use Rattle.salvaging.proofs.search.next_begin.Goals as goal

pub returns-in_err-behind : goal.returns-in_err-behind
returns-in_err-behind c =
    let y = c.in_ok-rest.ensures.lookup in
    let m = IsFirst-from_position _ _ _ (λ a. a ≡ 1) no-tag c.position.ensures.ran (YieldsList-from_slice c.in_ok-rest.rest.now cc) (λ x q k. search (rules, tests)) (λ x q k. search (rules, tests)) in
    rw (c.from_residual-in_err-behind.ensures) (none-behind c.args.log.now c.in_ok-rest.rest.now c.args.from y.0.2 y.0.3 c.position.result c.in_err-behind.was m)

pub returns : goal.returns
returns c =
    let y = c.in_ok-rest.ensures.lookup in
    let m = IsFirst-from_position _ _ _ (λ a. a ≡ 1) no-tag c.position.ensures.ran (YieldsList-from_slice c.in_ok-rest.rest.now cc) (λ x q k. search (rules, tests)) (λ x q k. search (rules, tests)) in
    first-behind c.args.log.now c.in_ok-rest.rest.now c.args.from y.0.2 y.0.3 c.position.result c.in_ok-behind.behind c.in_ok-behind.was m
