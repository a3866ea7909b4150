use Rattle.sk_coherence_laws.specs.Moves.{Idles}
use Rattle.sk_coherence_laws.proofs.ServesLemmas.{idle-reserve}
use Rattle.sk_coherence_laws.proofs.FillSums.{traces-idle, idle-trans}
use Rattle.sk_coherence_laws.specs.Retires.{IsRetiring}
use Rattle.sk_coherence_laws.proofs.RetireLemmas.{retired-traced}
use Rattle.sk_coherence.proofs.directory.Directory.retire.Goals as goal

pub returns-in_err-expect_steps-clause-traced : goal.returns-in_err-expect_steps-clause-traced
returns-in_err-expect_steps-clause-traced g c =
    let a = c.args.self.now in
    let b = c.expect_steps.new.self in
    traces-idle (IsRetiring c.args.store.id c.args.range.lo c.args.range.hi) a b
    (idle-reserve a b c.expect_steps.ensures.same c.expect_steps.ensures.spaces c.expect_steps.ensures.kept)

pub returns-in_err-expect_stale-clause-traced : goal.returns-in_err-expect_stale-clause-traced
returns-in_err-expect_stale-clause-traced g c =
    let a = c.args.self.now in
    let b = c.expect_steps.new.self in
    let j = c.expect_stale.new.self in
    let s = c.args.store.id in
    let ib : Idles a b = idle-reserve a b c.expect_steps.ensures.same c.expect_steps.ensures.spaces c.expect_steps.ensures.kept in
    let ij : Idles a j = idle-trans a b j ib c.expect_stale.ensures.idle in
    traces-idle (IsRetiring s c.args.range.lo c.args.range.hi) a j ij

pub returns-clause-traced : goal.returns-clause-traced
returns-clause-traced g c =
    let a = c.args.self.now in
    let b = c.expect_steps.new.self in
    let j = c.expect_stale.new.self in
    let s = c.args.store.id in
    let ib : Idles a b = idle-reserve a b c.expect_steps.ensures.same c.expect_steps.ensures.spaces c.expect_steps.ensures.kept in
    let ij : Idles a j = idle-trans a b j ib c.expect_stale.ensures.idle in
    retired-traced a j c.make_stale.new.self c.free_among.new.self s c.args.range.lo c.args.range.hi c.is_sound.ensures ij c.make_stale.ensures.staled c.make_stale.ensures.traced
    c.free_among.ensures.thins c.free_among.ensures.gone c.free_among.ensures.traced
