use Rattle.law_server.proofs.Rows.Members.{image_is}
use Rattle.law_server.proofs.row_laws.images_are_pairs.Goals as goal

pub returns : goal.returns
returns c = image_is
