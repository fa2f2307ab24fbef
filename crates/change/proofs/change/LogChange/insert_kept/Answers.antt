-- `LogChange::insert_kept` meets its contract: a refusal changes nothing, else one put. Assumes nothing.
use mathlib.Core.Path.{sym}
use Rattle.change.specs.Change.{change_of}
use Rattle.change.proofs.Rules.{kept-directory, kept-parts}
use Rattle.change.proofs.Accepted.{accepted, made-refused, made-put}
use Rattle.change.proofs.change.LogChange.insert_kept.Goals as goal

pub mark-requires : goal.mark-requires
mark-requires c =
    let a = c.args in
    let l = change_of a.self a.words.now a.bytes.now in
    (accepted a.kind a.directory l.parts a.number a.index a.sub a.«data».now c.in-Ok.old (kept-directory a.directory l c.requires) (kept-parts a.directory l c.requires) (sym c.in-Ok.ensures)).slot

pub put_in-counts-requires : goal.put_in-counts-requires
put_in-counts-requires c =
    let a = c.args in
    let l = change_of a.self a.words.now a.bytes.now in
    let ok = kept-parts a.directory l c.requires in
    let g = accepted a.kind a.directory l.parts a.number a.index a.sub a.«data».now c.in-Ok.old (kept-directory a.directory l c.requires) ok (sym c.in-Ok.ensures) in (ok, g.fits, g.takes)

pub returns-in-Err : goal.returns-in-Err
returns-in-Err c =
    let a = c.args in
    made-refused a.kind a.directory (change_of a.self a.words.now a.bytes.now) a.number a.index a.sub a.«data».now c.in-Err.answer (sym c.in-Err.ensures)

pub returns-in-Ok : goal.returns-in-Ok
returns-in-Ok c =
    let a = c.args in
    made-put a.kind a.directory (change_of a.self a.words.now a.bytes.now) a.number a.index a.sub a.«data».now c.in-Ok.old (sym c.in-Ok.ensures) c.mark.result c.mark.ensures _ c.put_in-counts.ensures
