-- `walked` meets its contract. Assumes nothing.
use Rattle.checker.proofs.Calls.{walks-settled, walks-waiting, rest-within, rest-few}
use Rattle.checker.proofs.checker.LogChecker.walked.Goals as goal

pub slice_bounds-keep-count : goal.slice_bounds-keep-count
slice_bounds-keep-count c = rest-within c.args.self.directory c.requires.0 c.args.bytes.now (λ k. (c.type_inv.bytes k).fits) c.args.base c.args.s _ c.requires.1 c.in-Ok.ensures

pub slice_bounds-keep-start : goal.slice_bounds-keep-start
slice_bounds-keep-start c = rest-within c.args.self.directory c.requires.0 c.args.bytes.now (λ k. (c.type_inv.bytes k).fits) c.args.base c.args.s _ c.requires.1 c.in-Ok.ensures

pub keep-requires : goal.keep-requires
keep-requires c = rest-few c.args.self.directory c.requires.0 c.args.bytes.now (λ k. (c.type_inv.bytes k).fits) c.args.base c.args.s _ c.requires.1 c.in-Ok.ensures

pub returns-in-Err : goal.returns-in-Err
returns-in-Err c = walks-settled c.args.self c.args.bytes.now _ _ _ c.in-Err.ensures c.settled.ensures

pub returns-in-Ok : goal.returns-in-Ok
returns-in-Ok c = walks-waiting c.args.self c.args.bytes.now _ _ _ _ c.in-Ok.ensures c.keep.ensures c.answered.ensures
