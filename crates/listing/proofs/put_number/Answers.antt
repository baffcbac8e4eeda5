use Rattle.listing.proofs.Written.{number_room, number_put, one_digit_put, two_digits_put}
use Rattle.listing.proofs.put_number.Goals as goal

pub returns-then-n-lt10 : goal.returns-then-n-lt10
returns-then-n-lt10 c = search one_digit_put

pub returns-then-n-lt100 : goal.returns-then-n-lt100
returns-then-n-lt100 c = search two_digits_put

pub put_decimal-requires : goal.put_decimal-requires
put_decimal-requires c = search number_room

pub returns : goal.returns
returns c = search number_put
