use Rattle.std.proofs.Common.{◌≡◌, ℤ, ◌<◌, length, rules, subst, w64}
use Rattle.std.proofs.lemmas.Int.{to_z-of_z}
use Rattle.sk_base.specs.Shape.{cells_of}
use Rattle.sk_spaces.specs.declared.step.Step.TheVariants as line
use Rattle.sk_coherence_laws.specs.HostBlocks.{home_at}
use Rattle.sk_coherence_laws.specs.Steps.{IsAlloc}
use Rattle.sk_coherence_laws.proofs.FillSums.{traces-idle}
use Rattle.sk_coherence_laws.proofs.NamedMoves.{on_err_any}
use Rattle.sk_coherence_laws.proofs.ServesLemmas.{idle-reserve, serves-idle}
use Rattle.sk_container.specs.Lines.{TracesThen}
use Rattle.sk_container.specs.Made.{IsTrying}
use Rattle.sk_container.proofs.MadeLemmas.{makes-filled, some-same, writes-same, either, undoes-served, undoes-closed, undoes-left, notes-filled, len-same-cells, traces-undone}
use Rattle.sk_container.proofs.made.open_with.Goals as goal

pub returns-in_err-store-clause-err : goal.returns-in_err-store-clause-err
returns-in_err-store-clause-err g c = let a = c.args.dir.now in let n = c.open.new.self in let e = c.in_err-store.ensures in
    on_err_any c.from_residual.result (undoes-served a c.is_sound.ensures n (serves-idle a n (idle-reserve a n e.err e.spaces e.kept)))

pub returns-in_err-store-clause-traced : goal.returns-in_err-store-clause-traced
returns-in_err-store-clause-traced g c = let a = c.args.dir.now in let e = c.in_err-store.ensures in
    on_err_any c.from_residual.result (traces-idle (IsTrying a.next c.args.ty c.args.shape.now) a c.open.new.self (idle-reserve a c.open.new.self e.err e.spaces e.kept))

pub returns-in-Ok-clause-made : goal.returns-in-Ok-clause-made
returns-in-Ok-clause-made g c = let b = c.open.new.self in let n = c.fill_all.new.dir in let id = c.in_ok-store.store.id in let shape = c.args.shape.now in
    let some : 0 < length c.args.cells.now = search rules in
    makes-filled c.args.dir.now b id c.args.ty shape c.is_sound.ensures c.in_ok-store.ensures.ok n c.args.cell
    (some-same (cells_of shape) c.args.cells.now c.args.cell c.requires.same some)
    (writes-same b n id (cells_of shape) c.args.cells.now c.args.cell c.requires.same c.in-Ok.ensures.written)

pub returns-in-Ok-clause-noted : goal.returns-in-Ok-clause-noted
returns-in-Ok-clause-noted g c =
    let a = c.args.dir.now in let b = c.open.new.self in let n = c.fill_all.new.dir in let o = c.in_ok-store.ensures in
    let len = length c.args.cells.now in
    let some : 0 < len = search rules in
    let id = c.in_ok-store.store.id in
    let filled : TracesThen (IsAlloc (home_at id 0 0 len)) (λ home. home ≡ home_at id 0 0 len) (λ copy. line.Fill copy 0 len c.args.cell) b n
    = subst (λ (x : ℤ). TracesThen (IsAlloc (home_at id 0 0 len)) (λ home. home ≡ home_at id 0 0 len) (λ copy. line.Fill copy 0 len x) b n) (to_z-of_z w64 c.args.cell c.ranges.cell) c.in-Ok.ensures.noted in
    notes-filled a b n c.in_ok-store.store.id c.args.ty c.args.shape.now c.args.cell c.args.cells.now c.requires.same some
    (record { noted = o.ok.spaces.noted; traced = o.traced }) filled

pub returns-in-Err-clause-err : goal.returns-in-Err-clause-err
returns-in-Err-clause-err g c =
    let a = c.args.dir.now in let b = c.open.new.self in let m = c.fill_all.new.dir in let n = c.close.new.self in
    let id = c.in_ok-store.store.id in let ty = c.args.ty in let shape = c.args.shape.now in let o = c.in_ok-store.ensures.ok in
    either c.close.result c.close.ensures.ok c.close.ensures.err
    (λ closes. undoes-closed a b id ty shape c.is_sound.ensures o m n c.in-Err.ensures.err closes)
    (λ idles. undoes-left a b id ty shape c.is_sound.ensures o m n c.in-Err.ensures.err (serves-idle m n idles))

pub returns-in-Err-clause-traced : goal.returns-in-Err-clause-traced
returns-in-Err-clause-traced g c =
    let a = c.args.dir.now in let b = c.open.new.self in let m = c.fill_all.new.dir in let n = c.close.new.self in
    let id = c.in_ok-store.store.id in
    traces-undone a b m n id (length c.args.cells.now) c.args.ty c.args.shape.now c.in_ok-store.ensures.ok c.in_ok-store.ensures.traced
    (len-same-cells (cells_of c.args.shape.now) c.args.cells.now c.args.cell c.requires.same) c.in-Err.ensures.err c.in-Err.ensures.traced c.close.ensures.traced
