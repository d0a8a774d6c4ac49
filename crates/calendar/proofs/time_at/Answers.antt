-- `calendar::time_at` meets its contract: the octets read are those of the time, and its returns are the tests of a time in order.
use mathlib.Core.Path.{◌≡◌, sym, ◌∙◌}
use Prim.Native.Nat.{◌+◌}
use native.Mathlib.Omega.{arith}
use Rattle.calendar.specs.Calendar.{octets_time, is_date}
use Rattle.calendar.proofs.Tests.{date_in_range, read_time, read_no_date, read_no_time}
use Rattle.calendar.proofs.time_at.Goals.{After-is_date}
use Rattle.calendar.proofs.time_at.Goals as goal

pub overflow_cast-month : goal.overflow_cast-month
overflow_cast-month c = omega (arith, c.type_inv.file (c.args.at.0 + 2))

pub overflow_cast-day : goal.overflow_cast-day
overflow_cast-day c = omega (arith, c.type_inv.file (c.args.at.0 + 3))

pub overflow_cast-hour : goal.overflow_cast-hour
overflow_cast-hour c = omega (arith, c.type_inv.file (c.args.at.0 + 4))

pub overflow_cast-minute : goal.overflow_cast-minute
overflow_cast-minute c = omega (arith, c.type_inv.file (c.args.at.0 + 5))

pub overflow_cast-second : goal.overflow_cast-second
overflow_cast-second c = omega (arith, c.type_inv.file (c.args.at.0 + 6))

-- The date was tested as it stands in the octets.
tested : (c : After-is_date) → let args = c.args in c.is_date.result ≡ is_date (octets_time args.file.now args.at.0).date
tested c = rw c.number_at-year.ensures.0 at c.is_date.ensures

pub returns-then-not-is_date : goal.returns-then-not-is_date
returns-then-not-is_date c =
    let args = c.args in
    sym (read_no_date args.file.now args.at.0 (sym (tested (goal.at.returns-then-not-is_date c).After-is_date) ∙ c.if-not-is_date.true))

pub returns-then-hour-gt23 : goal.returns-then-hour-gt23
returns-then-hour-gt23 c =
    let args = c.args in
    sym (read_no_time args.file.now args.at.0 (omega arith))

pub returns-then-minute-gt59 : goal.returns-then-minute-gt59
returns-then-minute-gt59 c =
    let args = c.args in
    sym (read_no_time args.file.now args.at.0 (omega arith))

pub returns-then-second-gt59 : goal.returns-then-second-gt59
returns-then-second-gt59 c =
    let args = c.args in
    sym (read_no_time args.file.now args.at.0 (omega arith))

pub returns : goal.returns
returns c =
    let args = c.args in
    let in_range_lem = date_in_range (octets_time args.file.now args.at.0).date (sym (tested (goal.at.returns c).After-is_date) ∙ c.if-not-is_date.false) in
    rw c.number_at-year.ensures.0 (sym (read_time args.file.now args.at.0 (omega arith)))
