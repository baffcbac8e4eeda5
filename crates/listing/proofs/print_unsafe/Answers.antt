use Rattle.listing.proofs.Whole.{unsafe_room, lines_room, unsafe_put}
use borrow.Author.Rules.{rules}
use Rattle.listing.proofs.print_unsafe.Goals as goal

pub put_head-at-requires : goal.put_head-at-requires
put_head-at-requires c = search unsafe_room

pub put_lines-requires : goal.put_lines-requires
put_lines-requires c = (search lines_room, search rules)

pub returns : goal.returns
returns c = search unsafe_put
