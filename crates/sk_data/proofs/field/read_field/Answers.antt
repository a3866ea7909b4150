use Rattle.std.proofs.Common.{◌+◌, sym, ap, ◌∙◌, subst, length, get_or}
use Rattle.csv.specs.Machine.{step}
use Rattle.csv.specs.Reading.{default_config}
use Rattle.sk_data.specs.Machine.{Tells, state_at}
use Rattle.sk_data.specs.declared.machine.Place.{Place}
use Rattle.sk_data.specs.declared.machine.Step.{Step}
use Rattle.sk_data.proofs.FieldsRead.{IsInField, field_ends, field_joins, field_passes, line_ends, rest_all, text_ends}
use Rattle.sk_data.proofs.field.read_field.Goals.{in-Passes, in-Joins}
use Rattle.sk_data.proofs.field.read_field.Goals as goal

pub returns-in-EndsField-clause-field : goal.returns-in-EndsField-clause-field
returns-in-EndsField-clause-field g c =
    field_ends (g.T.Taker.took c.bytes.taker) c.args.text.now _ c.bytes.at c.bytes.place c.bytes-test.true
    (subst (λ (s : Step). Tells s (step default_config (state_at c.bytes.place) (get_or c.args.text.now c.bytes.at 0))) c.in-EndsField.is c.step_of.ensures)
    (rest_all c.args.text.now (c.bytes.at + 1)) c.bytes.invariant.inside

pub returns-in-EndsRecord-clause-field : goal.returns-in-EndsRecord-clause-field
returns-in-EndsRecord-clause-field g c =
    line_ends (g.T.Taker.took c.bytes.taker) c.args.text.now _ c.bytes.at c.bytes.place c.bytes-test.true
    (subst (λ (s : Step). Tells s (step default_config (state_at c.bytes.place) (get_or c.args.text.now c.bytes.at 0))) c.in-EndsRecord.is c.step_of.ensures)
    (rest_all c.args.text.now (c.bytes.at + 1)) c.bytes.invariant.inside

pub bytes-preserved : goal.bytes-preserved
bytes-preserved g c = elim c.match-step_of.branch [
  | in-Passes w ↦ record {
    room = ap g.T.Taker.room w.taker-is ∙ c.bytes.invariant.room;
    inside =
        let told = subst (λ (s : Step). Tells s (step default_config (state_at c.bytes.place) (get_or c.args.text.now c.bytes.at 0))) w.in-Passes.is c.step_of.ensures in
        let next = field_passes (g.T.Taker.took c.bytes.taker) c.args.text.now c.bytes.at c.bytes.place w.in-Passes.next c.bytes-test.true told c.bytes.invariant.inside in
        subst (λ (p : Place). IsInField (g.T.Taker.took c.match-step_of.taker) c.args.text.now (c.bytes.at + 1) p) (sym w.place-is)
        (subst (λ (t : g.row.T.Denot). IsInField (g.T.Taker.took t) c.args.text.now (c.bytes.at + 1) w.in-Passes.next) (sym w.taker-is) next);
  }
  | in-Joins w ↦ record {
    room = ap g.T.Taker.room w.taker-is ∙ w.take.ensures.room ∙ c.bytes.invariant.room;
    inside =
        let told = subst (λ (s : Step). Tells s (step default_config (state_at c.bytes.place) (get_or c.args.text.now c.bytes.at 0))) w.in-Joins.is c.step_of.ensures in
        let next = field_joins (g.T.Taker.took c.bytes.taker) (g.T.Taker.took w.take.new.self) c.args.text.now c.bytes.at c.bytes.place w.in-Joins.next c.bytes-test.true told w.take.ensures.took c.bytes.invariant.inside in
        subst (λ (p : Place). IsInField (g.T.Taker.took c.match-step_of.taker) c.args.text.now (c.bytes.at + 1) p) (sym w.place-is)
        (subst (λ (t : g.row.T.Denot). IsInField (g.T.Taker.took t) c.args.text.now (c.bytes.at + 1) w.in-Joins.next) (sym w.taker-is) next);
  }
]

pub returns-clause-field : goal.returns-clause-field
returns-clause-field g c =
    text_ends (g.T.Taker.took c.bytes.taker) c.args.text.now _ c.bytes.at c.bytes.place c.bytes-test.false
    (rest_all c.args.text.now (length c.args.text.now)) c.bytes.invariant.inside
