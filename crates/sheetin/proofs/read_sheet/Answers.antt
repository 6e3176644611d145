-- `sheetin::read_sheet` meets its contract: the header, the records, the room, and only then the rows. Assumes nothing.
use Rattle.std.proofs.Common.{◌≡◌, Ok, Err, ap, sym, ◌∙◌, arith, rules}
use Rattle.line.specs.Refusal.{refusal}
use Rattle.sheetin.specs.Seen.{past}
use Rattle.sheetin.proofs.Whole.{no_header, no_records, wrong_record, few_rows, some_rows, short_room, all_rows}
use Rattle.sheetin.proofs.read_sheet.Goals as goal

pub returns-in_err-records : goal.returns-in_err-records
returns-in_err-records c =
    let e : c.from_residual.result ≡ Err (refusal 15 0) = search rules in
    rw e (no_header c.args.text.now c.args.room.now (sym (ap past c.in_err-records.ensures.ok_part) ∙ c.header_end.ensures))

pub returns-then-is_empty : goal.returns-then-is_empty
returns-then-is_empty c =
    rw c.bad_record-then-is_empty.ensures
    (no_records c.args.text.now c.args.room.now _ (sym (ap past c.in_ok-records.ensures.ok_part) ∙ c.header_end.ensures) c.if-is_empty.ensures)

pub returns-in_err-n : goal.returns-in_err-n
returns-in_err-n c =
    wrong_record c.args.text.now c.args.room.now _ (sym (ap past c.in_ok-records.ensures.ok_part) ∙ c.header_end.ensures) c.if-is_empty.ensures
    c.records_end.ensures (grind (arith, rules))

pub overflow_mul-n : goal.overflow_mul-n
overflow_mul-n c =
    let g : c.records_end.result ≡ Ok c.in_ok-n.n = search rules in
    let h = few_rows c.args.text.now c.args.room.now _ (sym (ap past c.in_ok-records.ensures.ok_part) ∙ c.header_end.ensures) c.if-is_empty.ensures c.in_ok-n.n (sym g ∙ c.records_end.ensures) in
    record { fits = omega arith }

pub returns-then-room-n : goal.returns-then-room-n
returns-then-room-n c =
    let g : c.records_end.result ≡ Ok c.in_ok-n.n = search rules in
    rw c.refused.ensures
    (short_room c.args.text.now c.args.room.now _ (sym (ap past c.in_ok-records.ensures.ok_part) ∙ c.header_end.ensures) c.if-is_empty.ensures c.in_ok-n.n (sym g ∙ c.records_end.ensures) c.if-room-n.true)

pub overflow_sub-result : goal.overflow_sub-result
overflow_sub-result c =
    let g : c.records_end.result ≡ Ok c.in_ok-n.n = search rules in
    some_rows c.args.text.now c.args.room.now _ (sym (ap past c.in_ok-records.ensures.ok_part) ∙ c.header_end.ensures) c.if-is_empty.ensures c.in_ok-n.n (sym g ∙ c.records_end.ensures)

pub returns : goal.returns
returns c =
    let g : c.records_end.result ≡ Ok c.in_ok-n.n = search rules in
    all_rows c.args.text.now c.args.room.now _ (sym (ap past c.in_ok-records.ensures.ok_part) ∙ c.header_end.ensures) c.if-is_empty.ensures c.in_ok-n.n (sym g ∙ c.records_end.ensures) _ c.if-room-n.false c.fill_records.ensures
