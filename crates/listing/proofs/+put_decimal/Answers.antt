use Rattle.std.proofs.Common.{arith}
use Rattle.listing.proofs.Written.{small_put, small_room, more_room, last_room, more_put}
use Rattle.listing.proofs.+put_decimal.Goals as goal

pub put_byte-requires : goal.put_byte-requires
put_byte-requires t c = search small_room

pub returns-then-n-lt10 : goal.returns-then-n-lt10
returns-then-n-lt10 t c = search small_put

pub put_decimal-next-requires : goal.put_decimal-next-requires
put_decimal-next-requires t c = (omega arith, search more_room)

pub put_byte-requires-2 : goal.put_byte-requires-2
put_byte-requires-2 t c = search last_room

pub returns : goal.returns
returns t c = search more_put
