use Rattle.db_state.proofs.PlaceOfLaws.{one_place}
use Rattle.db_state.proofs.laws.a_path_has_one_place.Goals as goal

pub returns : goal.returns
returns c = one_place
