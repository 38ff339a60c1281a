-- `serve` meets its contract.
use Rattle.std.proofs.Common.{refl}
use Rattle.streams.specs.Serving.{read}
use Rattle.streams.proofs.Streams.serve.Goals as goal

pub returns-in-Read : goal.returns-in-Read
returns-in-Read g c = read c.in-Read.is refl c.read_piece.ensures
