use Rattle.std.proofs.Common.{ℤ, ◌+◌, ◌<◌, arith, rules, sym, subst, FitsSigned, w64}
use Rattle.std.proofs.lemmas.Int.{to_z-of_z}
use Rattle.sk_coherence_laws.proofs.ServesLemmas.{serves-trans}
use Rattle.sk_base.specs.Shape.{cells_of}
use Rattle.sk_coherence_laws.specs.Directory.{store_at}
use Rattle.sk_coherence_laws.specs.HostBlocks.{home_at}
use Rattle.sk_coherence_laws.proofs.AcquireLemmas.{traces-pin}
use Rattle.sk_coherence_laws.proofs.NamedMoves.{on_err_any}
use Rattle.sk_coherence_laws.proofs.TracesLemmas.{traces-trans, traces-none}
use Rattle.sk_container.specs.Cells.{HasCell}
use Rattle.sk_container.specs.Lines.{IsHosting}
use Rattle.sk_container.specs.Parts.{IsHostOf}
use Rattle.sk_container.proofs.HostLines.{there-with, host-of, hosting-of}
use Rattle.sk_container.proofs.ReadLemmas.{serves-journal, serves-let-go, noted-read, has-listed, listed-long}
use Rattle.sk_container.proofs.host.read_at.Goals as goal

pub cell_at-cell-requires : goal.cell_at-cell-requires
cell_at-cell-requires g c = let b = c.host_block-block in record {
  inside = omega (
    arith,
    b.ensures.above,
    b.ensures.below,
    listed-long c.acquire_read.new.dir c.args.store.id c.in_ok-copy.copy.id b.result.lo b.result.hi c.cells.result.now c.is_sound-2.ensures c.in_ok-copy.ensures.home c.cells.ensures,
  );
}

pub returns-in_err-note-clause-serves : goal.returns-in_err-note-clause-serves
returns-in_err-note-clause-serves g c =
    let a = c.args.dir.now in let e = c.unpin.new.self in let b = c.host_block-block.result in
    serves-trans a e c.note.new.self c.is_sound.ensures
    (serves-let-go a c.acquire_read.new.dir e c.args.store.id c.in_ok-copy.copy.id b.lo b.hi c.in_ok-copy.ensures.ok c.is_sound.ensures c.in_ok-copy.ensures.home
    c.unpin.ensures.unpinned c.unpin.ensures.others c.unpin.ensures.same)
    (serves-journal e c.note.new.self c.note.ensures.same c.in_err-note.ensures.err.memories)

pub returns-clause-cell : goal.returns-clause-cell
returns-clause-cell g c =
    let a = c.args.dir.now in let b = c.host_block-block in
    let fits : FitsSigned w64 c.cell_at-cell.result = search rules in
    let has : HasCell a c.args.store.id c.args.index c.cell_at-cell.result = subst (λ (v : ℤ). HasCell a c.args.store.id c.args.index v) (sym c.cell_at-cell.ensures)
    (has-listed a c.acquire_read.new.dir c.args.store.id c.in_ok-copy.copy.id b.result.lo b.result.hi c.args.index c.cells.result.now c.in_ok-copy.ensures.ok c.is_sound-2.ensures
    c.requires.owned c.in_ok-copy.ensures.home c.in_ok-copy.ensures.readable b.ensures.above c.cells.ensures) in
    subst (λ (v : ℤ). HasCell a c.args.store.id c.args.index v) (sym (to_z-of_z w64 c.cell_at-cell.result fits)) has

pub returns-clause-noted : goal.returns-clause-noted
returns-clause-noted g c =
    let a = c.args.dir.now in let e = c.unpin.new.self in let b = c.host_block-block in let s = c.args.store.id in let i = c.args.index in
    let host : IsHostOf a s i (i + 1) (home_at s 0 b.result.lo b.result.hi) = let w = there-with (store_at a s) (λ st. c.args.index < cells_of st.shape) c.requires.inside in
    host-of a s c.args.index b.result.lo b.result.hi c.args.index (c.args.index + 1) w.0 w.1 b.ensures.block b.ensures.above (omega (arith, b.ensures.below)) in
    noted-read a c.acquire_read.new.dir e s c.in_ok-copy.copy.id b.result.lo b.result.hi c.in_ok-copy.ensures.ok c.is_sound.ensures c.in_ok-copy.ensures.home
    c.unpin.ensures.unpinned c.unpin.ensures.others c.unpin.ensures.same
    (IsHosting a s i (i + 1)) (IsHostOf a s i (i + 1)) c.note.new.self i host
    (hosting-of a a c.acquire_read.new.dir s i (i + 1) (home_at s 0 b.result.lo b.result.hi) host c.in_ok-copy.ensures.traced)
    c.unpin.ensures.traced b.ensures.above b.ensures.below c.in_ok-copy.ensures.readable c.in_ok-note.ensures.ok c.note.ensures.traced

pub returns-in_err-copy-clause-traced : goal.returns-in_err-copy-clause-traced
returns-in_err-copy-clause-traced g c =
    let a = c.args.dir.now in let b = c.host_block-block in let s = c.args.store.id in let i = c.args.index in
    let host : IsHostOf a s i (i + 1) (home_at s 0 b.result.lo b.result.hi) = let w = there-with (store_at a s) (λ st. c.args.index < cells_of st.shape) c.requires.inside in
    host-of a s c.args.index b.result.lo b.result.hi c.args.index (c.args.index + 1) w.0 w.1 b.ensures.block b.ensures.above (omega (arith, b.ensures.below)) in
    on_err_any c.from_residual.result (hosting-of a a c.acquire_read.new.dir s i (i + 1) (home_at s 0 b.result.lo b.result.hi) host c.in_err-copy.ensures.traced)

pub returns-in_err-note-clause-traced : goal.returns-in_err-note-clause-traced
returns-in_err-note-clause-traced g c =
    let a = c.args.dir.now in let e = c.unpin.new.self in let n = c.note.new.self in let b = c.host_block-block in let s = c.args.store.id in let i = c.args.index in
    let host : IsHostOf a s i (i + 1) (home_at s 0 b.result.lo b.result.hi) = let w = there-with (store_at a s) (λ st. c.args.index < cells_of st.shape) c.requires.inside in
    host-of a s c.args.index b.result.lo b.result.hi c.args.index (c.args.index + 1) w.0 w.1 b.ensures.block b.ensures.above (omega (arith, b.ensures.below)) in
    on_err_any c.from_residual-in_err-note.result
    (traces-trans (IsHosting a s i (i + 1)) a e n
    (traces-pin (IsHosting a s i (i + 1)) a c.acquire_read.new.dir e
    (hosting-of a a c.acquire_read.new.dir s i (i + 1) (home_at s 0 b.result.lo b.result.hi) host c.in_ok-copy.ensures.traced)
    c.unpin.ensures.same c.unpin.ensures.traced)
    (traces-none (IsHosting a s i (i + 1)) e n c.in_err-note.ensures.err.journal c.note.ensures.traced))

pub returns-clause-serves : goal.returns-clause-serves
returns-clause-serves g c =
    let a = c.args.dir.now in let e = c.unpin.new.self in let b = c.host_block-block.result in
    serves-trans a e c.note.new.self c.is_sound.ensures
    (serves-let-go a c.acquire_read.new.dir e c.args.store.id c.in_ok-copy.copy.id b.lo b.hi c.in_ok-copy.ensures.ok c.is_sound.ensures c.in_ok-copy.ensures.home
    c.unpin.ensures.unpinned c.unpin.ensures.others c.unpin.ensures.same)
    (serves-journal e c.note.new.self c.note.ensures.same c.in_ok-note.ensures.ok.memories)
