use Rattle.sk_data.proofs.GivenBack.{reads_back-ok}
use Rattle.sk_data.proofs.to_text.dump.Goals as goal

pub returns-clause-reads_back : goal.returns-clause-reads_back
returns-clause-reads_back c = reads_back-ok (λ text. text.items) c.args.containers.now c.text_of.result c.text_of.ensures
