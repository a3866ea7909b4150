use Rattle.sk_data.specs.Records.{records_of}
use Rattle.sk_data.proofs.Suited.{given-suits-ok}
use Rattle.sk_data.proofs.from_text.input.Goals as goal

pub returns-clause-suited : goal.returns-clause-suited
returns-clause-suited c =
    given-suits-ok (λ given. given.items) c.args.declared.now (records_of c.args.bytes.now) c.read_inputs.result c.requires.names c.read_inputs.ensures.given
