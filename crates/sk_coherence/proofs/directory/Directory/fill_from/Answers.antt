use Rattle.std.proofs.Common.{arith, sym, subst, ap, ◌∙◌}
use Rattle.sk_copy_states.specs.Copies.{state_in}
use Rattle.sk_coherence_laws.specs.Directory.{DirectoryView, copy_at}
use Rattle.sk_coherence_laws.specs.Moves.{CanMove, IsStaleAt, IsSourceAt, Idles}
use Rattle.sk_coherence_laws.specs.Steps.{IsFill}
use Rattle.sk_coherence_laws.proofs.ServesLemmas.{serves-idle, grows-idle, idle-reserve}
use Rattle.sk_coherence_laws.proofs.FillSums.{traces-idle, idle-trans, sum-serves, sum-traced, sum-grows, sum-read}
use Rattle.sk_coherence.proofs.RetreatLemmas.{can-on}
use Rattle.sk_coherence.proofs.LaterLemmas.{kept-fill, before-fill, sum-beside}
use Rattle.sk_coherence.specs.Later.{LieTogether, IsFillBeside}
use Rattle.sk_coherence.proofs.directory.Directory.fill_from.Goals as goal

pub returns-in_err-reserve-clause-serves : goal.returns-in_err-reserve-clause-serves
returns-in_err-reserve-clause-serves g c =
    let a = c.args.self.now in
    let b = c.reserve.new.self in
    let i : Idles a b = idle-reserve a b c.reserve.ensures.same c.reserve.ensures.spaces c.reserve.ensures.kept in
    serves-idle a b i

pub returns-in_err-reserve-clause-traced : goal.returns-in_err-reserve-clause-traced
returns-in_err-reserve-clause-traced g c =
    let a = c.args.self.now in
    let b = c.reserve.new.self in
    let i : Idles a b = idle-reserve a b c.reserve.ensures.same c.reserve.ensures.spaces c.reserve.ensures.kept in
    λ home lies. traces-idle (IsFill home c.args.transfer.range.lo c.args.transfer.range.hi) a b i

pub returns-in_err-reserve-clause-grows : goal.returns-in_err-reserve-clause-grows
returns-in_err-reserve-clause-grows g c =
    let a = c.args.self.now in
    let b = c.reserve.new.self in
    let i : Idles a b = idle-reserve a b c.reserve.ensures.same c.reserve.ensures.spaces c.reserve.ensures.kept in
    grows-idle a b i

pub returns-in_err-reserve-clause-others : goal.returns-in_err-reserve-clause-others
returns-in_err-reserve-clause-others g c =
    let a = c.args.self.now in
    let b = c.reserve.new.self in
    let i : Idles a b = idle-reserve a b c.reserve.ensures.same c.reserve.ensures.spaces c.reserve.ensures.kept in
    λ q ne. i.copies q

pub returns-in_err-reserve-clause-before : goal.returns-in_err-reserve-clause-before
returns-in_err-reserve-clause-before g c =
    let a = c.args.self.now in
    let b = c.reserve.new.self in
    let i : Idles a b = idle-reserve a b c.reserve.ensures.same c.reserve.ensures.spaces c.reserve.ensures.kept in
    λ k below. (i.copies c.args.transfer.to.id).states k

pub returns-in_err-fill-clause-serves : goal.returns-in_err-fill-clause-serves
returns-in_err-fill-clause-serves g c =
    let a = c.args.self.now in
    let b = c.reserve.new.self in
    let n = c.fill.new.self in
    let i : Idles a n = idle-trans a b n (idle-reserve a b c.reserve.ensures.same c.reserve.ensures.spaces c.reserve.ensures.kept) c.in_err-fill.ensures.err in
    serves-idle a n i

pub returns-in_err-fill-clause-traced : goal.returns-in_err-fill-clause-traced
returns-in_err-fill-clause-traced g c =
    let a = c.args.self.now in
    let b = c.reserve.new.self in
    let n = c.fill.new.self in
    let i : Idles a n = idle-trans a b n (idle-reserve a b c.reserve.ensures.same c.reserve.ensures.spaces c.reserve.ensures.kept) c.in_err-fill.ensures.err in
    λ home lies. traces-idle (IsFill home c.args.transfer.range.lo c.args.transfer.range.hi) a n i

pub returns-in_err-fill-clause-grows : goal.returns-in_err-fill-clause-grows
returns-in_err-fill-clause-grows g c =
    let a = c.args.self.now in
    let b = c.reserve.new.self in
    let n = c.fill.new.self in
    let i : Idles a n = idle-trans a b n (idle-reserve a b c.reserve.ensures.same c.reserve.ensures.spaces c.reserve.ensures.kept) c.in_err-fill.ensures.err in
    grows-idle a n i

pub returns-in_err-fill-clause-others : goal.returns-in_err-fill-clause-others
returns-in_err-fill-clause-others g c =
    let a = c.args.self.now in
    let b = c.reserve.new.self in
    let n = c.fill.new.self in
    let i : Idles a n = idle-trans a b n (idle-reserve a b c.reserve.ensures.same c.reserve.ensures.spaces c.reserve.ensures.kept) c.in_err-fill.ensures.err in
    λ q ne. i.copies q

pub returns-in_err-fill-clause-before : goal.returns-in_err-fill-clause-before
returns-in_err-fill-clause-before g c =
    let a = c.args.self.now in
    let b = c.reserve.new.self in
    let n = c.fill.new.self in
    let i : Idles a n = idle-trans a b n (idle-reserve a b c.reserve.ensures.same c.reserve.ensures.spaces c.reserve.ensures.kept) c.in_err-fill.ensures.err in
    λ k below. (i.copies c.args.transfer.to.id).states k

pub returns-clause-serves : goal.returns-clause-serves
returns-clause-serves g c =
    let a = c.args.self.now in
    let b = c.reserve.new.self in
    let n = c.fill.new.self in
    let t = c.args.transfer in
    let i : Idles a b = idle-reserve a b c.reserve.ensures.same c.reserve.ensures.spaces c.reserve.ensures.kept in
    let can : CanMove b t.from.id t.to.id t.range.lo t.range.hi = can-on a b c.reserve.ensures.same t.from.id t.to.id t.range.lo t.range.hi c.requires.can in
    let missing : IsStaleAt b t.to.id t.range.lo t.range.hi = λ k above below. ap (λ x. state_in (copy_at x t.to.id) k) c.reserve.ensures.same ∙ c.requires.missing k above below in
    sum-serves a b n t.from.id t.to.id t.range.lo t.range.hi c.is_sound.ensures c.is_sound-2.ensures i can missing c.in_ok-fill.ensures.ok c.in_ok-fill.ensures.traced

pub returns-clause-traced : goal.returns-clause-traced
returns-clause-traced g c =
    let a = c.args.self.now in
    let b = c.reserve.new.self in
    let n = c.fill.new.self in
    let t = c.args.transfer in
    let i : Idles a b = idle-reserve a b c.reserve.ensures.same c.reserve.ensures.spaces c.reserve.ensures.kept in
    let can : CanMove b t.from.id t.to.id t.range.lo t.range.hi = can-on a b c.reserve.ensures.same t.from.id t.to.id t.range.lo t.range.hi c.requires.can in
    let missing : IsStaleAt b t.to.id t.range.lo t.range.hi = λ k above below. ap (λ x. state_in (copy_at x t.to.id) k) c.reserve.ensures.same ∙ c.requires.missing k above below in
    sum-traced a b n t.from.id t.to.id t.range.lo t.range.hi c.is_sound.ensures c.is_sound-2.ensures i can missing c.in_ok-fill.ensures.ok c.in_ok-fill.ensures.traced c.requires.some
    (subst (λ (x : DirectoryView). IsSourceAt x t.from.id t.to.id t.range.lo t.range.hi) (sym c.reserve.ensures.same) c.requires.source)

pub returns-clause-grows : goal.returns-clause-grows
returns-clause-grows g c =
    let a = c.args.self.now in
    let b = c.reserve.new.self in
    let n = c.fill.new.self in
    let t = c.args.transfer in
    let i : Idles a b = idle-reserve a b c.reserve.ensures.same c.reserve.ensures.spaces c.reserve.ensures.kept in
    let can : CanMove b t.from.id t.to.id t.range.lo t.range.hi = can-on a b c.reserve.ensures.same t.from.id t.to.id t.range.lo t.range.hi c.requires.can in
    let missing : IsStaleAt b t.to.id t.range.lo t.range.hi = λ k above below. ap (λ x. state_in (copy_at x t.to.id) k) c.reserve.ensures.same ∙ c.requires.missing k above below in
    sum-grows a b n t.from.id t.to.id t.range.lo t.range.hi c.is_sound.ensures c.is_sound-2.ensures i can missing c.in_ok-fill.ensures.ok c.in_ok-fill.ensures.traced

pub returns-clause-others : goal.returns-clause-others
returns-clause-others g c =
    let a = c.args.self.now in
    let b = c.reserve.new.self in
    let n = c.fill.new.self in
    let t = c.args.transfer in
    let i : Idles a b = idle-reserve a b c.reserve.ensures.same c.reserve.ensures.spaces c.reserve.ensures.kept in
    let can : CanMove b t.from.id t.to.id t.range.lo t.range.hi = can-on a b c.reserve.ensures.same t.from.id t.to.id t.range.lo t.range.hi c.requires.can in
    let missing : IsStaleAt b t.to.id t.range.lo t.range.hi = λ k above below. ap (λ x. state_in (copy_at x t.to.id) k) c.reserve.ensures.same ∙ c.requires.missing k above below in
    λ q ne. kept-fill a b n t.from.id t.to.id t.range.lo t.range.hi q i c.in_ok-fill.ensures.ok ne

pub returns-clause-before : goal.returns-clause-before
returns-clause-before g c =
    let a = c.args.self.now in
    let b = c.reserve.new.self in
    let n = c.fill.new.self in
    let t = c.args.transfer in
    let i : Idles a b = idle-reserve a b c.reserve.ensures.same c.reserve.ensures.spaces c.reserve.ensures.kept in
    let can : CanMove b t.from.id t.to.id t.range.lo t.range.hi = can-on a b c.reserve.ensures.same t.from.id t.to.id t.range.lo t.range.hi c.requires.can in
    let missing : IsStaleAt b t.to.id t.range.lo t.range.hi = λ k above below. ap (λ x. state_in (copy_at x t.to.id) k) c.reserve.ensures.same ∙ c.requires.missing k above below in
    λ k below. before-fill a b n t.from.id t.to.id t.range.lo t.range.hi k i c.in_ok-fill.ensures.ok below

pub returns-clause-ok : goal.returns-clause-ok
returns-clause-ok g c =
    let a = c.args.self.now in
    let b = c.reserve.new.self in
    let n = c.fill.new.self in
    let t = c.args.transfer in
    let i : Idles a b = idle-reserve a b c.reserve.ensures.same c.reserve.ensures.spaces c.reserve.ensures.kept in
    let can : CanMove b t.from.id t.to.id t.range.lo t.range.hi = can-on a b c.reserve.ensures.same t.from.id t.to.id t.range.lo t.range.hi c.requires.can in
    let missing : IsStaleAt b t.to.id t.range.lo t.range.hi = λ k above below. ap (λ x. state_in (copy_at x t.to.id) k) c.reserve.ensures.same ∙ c.requires.missing k above below in
    sum-read a b n t.from.id t.to.id t.range.lo t.range.hi c.is_sound.ensures c.is_sound-2.ensures i can missing c.in_ok-fill.ensures.ok c.in_ok-fill.ensures.traced t.range.lo (λ k above below. absurd (omega (arith, above, below)))

pub returns-in_err-reserve-clause-beside : goal.returns-in_err-reserve-clause-beside
returns-in_err-reserve-clause-beside g c =
    let a = c.args.self.now in
    let b = c.reserve.new.self in
    let i : Idles a b = idle-reserve a b c.reserve.ensures.same c.reserve.ensures.spaces c.reserve.ensures.kept in
    λ near home lies. traces-idle (IsFillBeside home c.args.transfer.range.lo c.args.transfer.range.hi) a b i

pub returns-in_err-fill-clause-beside : goal.returns-in_err-fill-clause-beside
returns-in_err-fill-clause-beside g c =
    let a = c.args.self.now in
    let b = c.reserve.new.self in
    let n = c.fill.new.self in
    let i : Idles a n = idle-trans a b n (idle-reserve a b c.reserve.ensures.same c.reserve.ensures.spaces c.reserve.ensures.kept) c.in_err-fill.ensures.err in
    λ near home lies. traces-idle (IsFillBeside home c.args.transfer.range.lo c.args.transfer.range.hi) a n i

pub returns-clause-beside : goal.returns-clause-beside
returns-clause-beside g c =
    let a = c.args.self.now in
    let b = c.reserve.new.self in
    let n = c.fill.new.self in
    let t = c.args.transfer in
    let i : Idles a b = idle-reserve a b c.reserve.ensures.same c.reserve.ensures.spaces c.reserve.ensures.kept in
    let can : CanMove b t.from.id t.to.id t.range.lo t.range.hi = can-on a b c.reserve.ensures.same t.from.id t.to.id t.range.lo t.range.hi c.requires.can in
    let missing : IsStaleAt b t.to.id t.range.lo t.range.hi = λ k above below. ap (λ x. state_in (copy_at x t.to.id) k) c.reserve.ensures.same ∙ c.requires.missing k above below in
    λ near. sum-beside a b n t.from.id t.to.id t.range.lo t.range.hi c.is_sound-2.ensures i can c.requires.some missing c.in_ok-fill.ensures.ok c.in_ok-fill.ensures.traced
    (subst (λ (x : DirectoryView). IsSourceAt x t.from.id t.to.id t.range.lo t.range.hi) (sym c.reserve.ensures.same) c.requires.source)
    (subst (λ (x : DirectoryView). LieTogether (copy_at x t.from.id) (copy_at x t.to.id)) (sym c.reserve.ensures.same) near)
