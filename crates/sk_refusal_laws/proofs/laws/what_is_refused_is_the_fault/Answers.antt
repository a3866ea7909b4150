use Rattle.sk_refusal_laws.proofs.Fault.{is-refusal}
use Rattle.sk_refusal_laws.proofs.laws.what_is_refused_is_the_fault.Goals as goal

pub returns : goal.returns
returns c = is-refusal
