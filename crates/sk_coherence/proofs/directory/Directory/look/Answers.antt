use Rattle.std.proofs.Common.{arith}
use Rattle.sk_coherence_laws.specs.Directory.{copy_at}
use Rattle.sk_coherence_laws.specs.HostBlocks.{IsHostHome}
use Rattle.sk_coherence_laws.proofs.AddLemmas.{if_some}
use Rattle.sk_coherence.specs.Later.{LieTogether}
use Rattle.sk_coherence.proofs.LaterLemmas.{beside-served, hosted-served, served-wider, served-none, made-grows}
use Rattle.sk_coherence.proofs.directory.Directory.look.Goals as goal

pub returns-in_default-clause-traced : goal.returns-in_default-clause-traced
returns-in_default-clause-traced g c = served-none c.args.self.now c.args.copy.id c.args.rest.lo c.args.rest.hi

pub returns-in_err-fill_from-clause-traced : goal.returns-in_err-fill_from-clause-traced
returns-in_err-fill_from-clause-traced g c =
    let a = c.args.self.now in
    let n = c.fill_from.new.self in
    let id = c.args.copy.id in
    let run = c.in-Some.run' in
    let near = if_some c.near-near.result.id c.in-Some-id.id (λ from. LieTogether (copy_at a from) (copy_at a id)) c.in-Some-id.is c.near-near.ensures.near in
    served-wider a n id run.lo c.near-near.result.hi c.args.rest.lo c.args.rest.hi (omega (arith, c.in-Some.ensures.within)) (omega (arith, c.near-near.ensures.below, c.in-Some.ensures.within))
    (beside-served a n id run.lo c.near-near.result.hi (c.fill_from.ensures.beside near))

pub returns-clause-traced : goal.returns-clause-traced
returns-clause-traced g c =
    let a = c.args.self.now in
    let n = c.fill_from.new.self in
    let id = c.args.copy.id in
    let run = c.in-Some.run' in
    let near = if_some c.near-near.result.id c.in-Some-id.id (λ from. LieTogether (copy_at a from) (copy_at a id)) c.in-Some-id.is c.near-near.ensures.near in
    served-wider a n id run.lo c.near-near.result.hi c.args.rest.lo c.args.rest.hi (omega (arith, c.in-Some.ensures.within)) (omega (arith, c.near-near.ensures.below, c.in-Some.ensures.within))
    (beside-served a n id run.lo c.near-near.result.hi (c.fill_from.ensures.beside near))

pub returns-in_err-transfer-clause-traced : goal.returns-in_err-transfer-clause-traced
returns-in_err-transfer-clause-traced g c =
    let a = c.args.self.now in
    let n = c.leave.new.self in
    let id = c.args.copy.id in
    let run = c.in-Some.run' in
    served-wider a n id run.lo c.near-near.result.hi c.args.rest.lo c.args.rest.hi (omega (arith, c.in-Some.ensures.within)) (omega (arith, c.near-near.ensures.below, c.in-Some.ensures.within))
    (hosted-served a n id run.lo c.near-near.result.hi c.leave.ensures.traced)

pub returns-in_default-id-clause-traced : goal.returns-in_default-id-clause-traced
returns-in_default-id-clause-traced g c =
    let a = c.args.self.now in
    let n = c.leave.new.self in
    let id = c.args.copy.id in
    let run = c.in-Some.run' in
    served-wider a n id run.lo c.near-near.result.hi c.args.rest.lo c.args.rest.hi (omega (arith, c.in-Some.ensures.within)) (omega (arith, c.near-near.ensures.below, c.in-Some.ensures.within))
    (hosted-served a n id run.lo c.near-near.result.hi c.leave.ensures.traced)

pub returns-in_err-fill_from-clause-made : goal.returns-in_err-fill_from-clause-made
returns-in_err-fill_from-clause-made g c = made-grows c.args.self.now c.fill_from.new.self (IsHostHome c.args.self.now) c.fill_from.ensures.grows

pub returns-clause-made : goal.returns-clause-made
returns-clause-made g c = made-grows c.args.self.now c.fill_from.new.self (IsHostHome c.args.self.now) c.fill_from.ensures.grows
