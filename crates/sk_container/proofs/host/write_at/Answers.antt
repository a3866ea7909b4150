use Rattle.std.proofs.Common.{ℕ, ℤ, ◌+◌, ◌<◌, ◌∷◌, [], arith, subst, w64}
use Rattle.std.proofs.lemmas.Int.{to_z-of_z}
use Rattle.sk_base.specs.Shape.{cells_of}
use Rattle.sk_spaces.specs.declared.step.Step.TheVariants as line
use Rattle.sk_coherence_laws.specs.Directory.{store_at}
use Rattle.sk_coherence_laws.specs.HostBlocks.{home_at}
use Rattle.sk_coherence_laws.proofs.NamedMoves.{on_err_any}
use Rattle.sk_container.specs.Changes.{Puts}
use Rattle.sk_container.specs.Lines.{TracesOne}
use Rattle.sk_container.specs.Parts.{IsHostOf}
use Rattle.sk_container.proofs.HostLines.{there-with, host-of, placing-of, lies-so}
use Rattle.sk_container.proofs.AlterLemmas.{writes-put, some-there}
use Rattle.sk_container.proofs.host.write_at.Goals as goal

pub returns-clause-written : goal.returns-clause-written
returns-clause-written g c =
    let a = c.args.dir.now in let x = c.in_ok-copy.ensures in let b = c.host_block-block.result in let i = c.args.index in
    let put : Puts c.acquire_write.new.dir c.put.new.dir c.in_ok-copy.copy.id i (i + 1) (c.args.cell ∷ [])
    = subst (λ (v : ℤ). Puts c.acquire_write.new.dir c.put.new.dir c.in_ok-copy.copy.id i (i + 1) (v ∷ [])) (to_z-of_z w64 c.args.cell c.ranges.cell) c.put.ensures.puts in
    writes-put a x.ok.before c.acquire_write.new.dir c.args.store.id 0 c.in_ok-copy.copy.id b.lo b.hi (some-there a c.args.store.id (λ (n : ℕ). i < n) c.requires.inside) x.ok.serves x.ok.owes x.home
    c.put.new.dir i (i + 1) (c.args.cell ∷ []) c.is_sound.ensures put

pub returns-in_err-copy-clause-traced : goal.returns-in_err-copy-clause-traced
returns-in_err-copy-clause-traced g c =
    let a = c.args.dir.now in let n = c.acquire_write.new.dir in let b = c.host_block-block in let s = c.args.store.id in let i = c.args.index in
    let host : IsHostOf a s i (i + 1) (home_at s 0 b.result.lo b.result.hi) = let w = there-with (store_at a s) (λ st. c.args.index < cells_of st.shape) c.requires.inside in
    host-of a s c.args.index b.result.lo b.result.hi c.args.index (c.args.index + 1) w.0 w.1 b.ensures.block b.ensures.above (omega (arith, b.ensures.below)) in
    on_err_any c.from_residual.result (placing-of a a n s i (i + 1) (home_at s 0 b.result.lo b.result.hi) host c.in_err-copy.ensures.traced)

pub returns-clause-noted : goal.returns-clause-noted
returns-clause-noted g c =
    let a = c.args.dir.now in let n = c.acquire_write.new.dir in let b = c.host_block-block in let s = c.args.store.id in let i = c.args.index in
    let host : IsHostOf a s i (i + 1) (home_at s 0 b.result.lo b.result.hi) = let w = there-with (store_at a s) (λ st. c.args.index < cells_of st.shape) c.requires.inside in
    host-of a s c.args.index b.result.lo b.result.hi c.args.index (c.args.index + 1) w.0 w.1 b.ensures.block b.ensures.above (omega (arith, b.ensures.below)) in
    record {
      before = n;
      copy = c.in_ok-copy.copy.id;
      first = placing-of a a n s i (i + 1) (home_at s 0 b.result.lo b.result.hi) host c.in_ok-copy.ensures.traced;
      lies = lies-so n c.in_ok-copy.copy.id (home_at s 0 b.result.lo b.result.hi) (IsHostOf a s i (i + 1)) c.in_ok-copy.ensures.home host;
      last = subst (λ (v : ℤ). TracesOne (line.Poke c.in_ok-copy.copy.id i v) n c.put.new.dir) (to_z-of_z w64 c.args.cell c.ranges.cell) c.put.ensures.noted;
    }
