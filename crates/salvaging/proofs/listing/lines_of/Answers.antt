-- `lines_of` meets its contract. Assumes nothing.
use Rattle.salvaging.proofs.Rest.{rest-first, rest_record, rest-last}
use Rattle.salvaging.proofs.listing.lines_of.Goals as goal

pub loop-f-init : goal.loop-f-init
loop-f-init c = let a = c.args in rest-first a.directory.now a.log.now _ c.new-lines.ensures

pub returns-in_default-keep : goal.returns-in_default-keep
returns-in_default-keep c =
    let a = c.args in
    let l = c.loop-f in
    let s = c.search_in in
    rest_record a.directory.now a.log.now l.lines l.at l.invariant s.result s.ensures.0 s.ensures.1 _ c.in-Record.is _ c.in_default-keep.ensures.is

pub loop-f-preserved : goal.loop-f-preserved
loop-f-preserved c =
    let a = c.args in
    let l = c.loop-f in
    let s = c.search_in in
    rest_record a.directory.now a.log.now l.lines l.at l.invariant s.result s.ensures.0 s.ensures.1 _ c.in-Record.is _ c.in-Ok.ensures.is

pub returns-in_default-leave_out : goal.returns-in_default-leave_out
returns-in_default-leave_out c =
    let a = c.args in
    let l = c.loop-f in
    let s = c.search_in in
    rest-last a.directory.now a.log.now l.lines l.at l.invariant s.result s.ensures.0 s.ensures.1 c.in_default.not-Record _ c.in_default-leave_out.ensures.is

pub returns : goal.returns
returns c =
    let a = c.args in
    let l = c.loop-f in
    let s = c.search_in in
    rest-last a.directory.now a.log.now l.lines l.at l.invariant s.result s.ensures.0 s.ensures.1 c.in_default.not-Record _ c.in-Ok-leave_out.ensures.is
