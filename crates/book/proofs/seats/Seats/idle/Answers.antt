use Rattle.book.proofs.Pools.{light-nobody}
use Rattle.book.proofs.seats.Seats.idle.Goals as goal

pub pool-nobody-requires-clause-light : goal.pool-nobody-requires-clause-light
pool-nobody-requires-clause-light c = light-nobody
