use Rattle.std.proofs.Common.{arith, rules}
use Rattle.sk_data.proofs.Taking.{all_faultless, all_given, fault_next, next_fits, none_left, smaller_next, some_left, taken_next}
use Rattle.sk_data.proofs.from_text.take_all.Goals as goal

pub overflow_add-row : goal.overflow_add-row
overflow_add-row c =
    let some = some_left c.records.rest.now c.is_empty.result c.is_empty.ensures c.records-test.true in
    let small = next_fits c.args.inputs.now.declared c.args.bytes.now c.records.rest.now c.records.inputs c.records.row c.records.invariant.taking some c.requires.size in
    record { fits = omega (arith, small) }

pub returns-in-Err-clause-fault : goal.returns-in-Err-clause-fault
returns-in-Err-clause-fault c = λ known.
    let some = some_left c.records.rest.now c.is_empty.result c.is_empty.ensures c.records-test.true in
    fault_next c.args.inputs.now.declared c.args.bytes.now c.records.rest.now c.read_record-record.result.text.now c.records.inputs c.records.row c.in-Err.fault
    c.records.invariant.taking some c.read_record-record.ensures.text (c.in-Err.ensures.fault known)

pub records-smaller : goal.records-smaller
records-smaller c =
    let some = some_left c.records.rest.now c.is_empty.result c.is_empty.ensures c.records-test.true in
    smaller_next c.records.rest.now c.read_record-record.result.text.now c.rest.result.now c.at_record-rest-in-Ok.result.now some
    c.records.invariant.taking.starts c.read_record-record.ensures.text c.rest.ensures c.at_record-rest-in-Ok.ensures.shorter

pub records-preserved : goal.records-preserved
records-preserved c =
    let some = some_left c.records.rest.now c.is_empty.result c.is_empty.ensures c.records-test.true in
    record {
      taking =
          taken_next c.args.inputs.now.declared c.args.bytes.now c.records.rest.now c.read_record-record.result.text.now c.rest.result.now
          c.at_record-rest-in-Ok.result.now c.records.inputs c.take.new.self c.records.row c.records.invariant.taking some
          c.read_record-record.ensures.text c.rest.ensures c.at_record-rest-in-Ok.ensures.starts c.at_record-rest-in-Ok.ensures.same
          c.in-Ok.ensures.declared c.in-Ok.ensures.taken c.in-Ok.ensures.faultless;
      name = search rules;
      shape = search rules;
    }

pub returns-clause-given : goal.returns-clause-given
returns-clause-given c =
    all_given c.args.inputs.now.declared c.args.bytes.now c.records.rest.now c.records.inputs c.records.row c.records.invariant.taking
    (none_left c.records.rest.now c.is_empty.result c.is_empty.ensures c.records-test.false)

pub returns-clause-faultless : goal.returns-clause-faultless
returns-clause-faultless c =
    all_faultless c.args.inputs.now.declared c.args.bytes.now c.records.rest.now c.records.inputs c.records.row c.records.invariant.taking
    (none_left c.records.rest.now c.is_empty.result c.is_empty.ensures c.records-test.false)
