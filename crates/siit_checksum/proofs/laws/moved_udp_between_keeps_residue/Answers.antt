use Rattle.siit_checksum.proofs.Moves.{moved_udp_between_keeps_residue}
use Rattle.siit_checksum.proofs.laws.moved_udp_between_keeps_residue.Goals as goal

pub returns : goal.returns
returns c = moved_udp_between_keeps_residue
