use Rattle.std.proofs.Common.{◌≤◌, ◌<◌, ◌^◌, arith}
use Rattle.siit_chain.proofs.Decimals.{digit_room, number_length, one_more_digit}
use Rattle.siit_chain.proofs.texts.+push_number.Goals as goal

pub push_digit-requires-else-number-lt10-clause-room : goal.push_digit-requires-else-number-lt10-clause-room
push_digit-requires-else-number-lt10-clause-room t c =
    let n = c.args.number in
    let small : n < 2 ^ 64 = omega (arith, c.ranges.number.fits) in
    let ten : 10 ≤ n = omega (arith, c.if-number-lt10.false) in
    digit_room c.args.line.now.bytes c.push_number.new.line.bytes n 144 ten small c.push_number.ensures.bytes c.requires.room

pub returns-else-number-lt10-clause-len : goal.returns-else-number-lt10-clause-len
returns-else-number-lt10-clause-len t c =
    let n = c.args.number in
    let small : n < 2 ^ 64 = omega (arith, c.ranges.number.fits) in
    let ten : 10 ≤ n = omega (arith, c.if-number-lt10.false) in
    number_length c.args.line.now.bytes c.push_digit-else-number-lt10.new.line.bytes n small
    (one_more_digit c.args.line.now.bytes c.push_number.new.line.bytes c.push_digit-else-number-lt10.new.line.bytes n ten small c.push_number.ensures.bytes c.push_digit-else-number-lt10.ensures)
