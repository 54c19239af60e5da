use Rattle.std.proofs.Common.{◌≡◌, ◌≤◌, ◌<◌, ℕ, List, [], drop, length}
use Rattle.std.specs.Prelude.{map}
use Rattle.std.specs.List.{fold, AllByRecursion}
use Rattle.siit_chain.specs.Carried.{carry, event, fresh}
use Rattle.siit_chain.specs.Outputs.{name_in, names_in}
use Rattle.siit_chain.specs.Verdicts.{IsCutInto}
use Rattle.siit_word.specs.Files.{Touches}
use Rattle.siit_carry.specs.Steps.{chain_on, packet_at}
use Rattle.siit_carry.proofs.Ways.{SoFar}
use Rattle.siit_carry.proofs.follow.+follow.Given as goal

abbrev pub decreases-follow : goal.decreases-follow
decreases-follow g l = g.D.Device.measure l.buf.now.bytes

abbrev pub invariant-loop-k : goal.invariant-loop-k
invariant-loop-k g l =
    let meaning = g.F.Files.meaning in
    let coming = g.I.Idents.coming in
    let names = name_in l.trip.outs in
    let chain = chain_on g.D.Device.outcome g.D.Device.measure l.trip in
    record {
      packets : List (List ℕ);
      are : (event chain l.trip.origin (coming l.fn.idents) (packet_at l.fn.at l.fn.buf.bytes)).sent ≡ map (packet_at l.to) packets;
      so_far : SoFar chain l.trip.origin names (meaning l.initial.files) (meaning l.files) (coming l.idents) l.initial.counts l.counts (map (packet_at l.to) (drop l.k packets))
          (fold (carry chain l.trip.origin) (fresh (coming l.initial.idents)) (map (packet_at l.to) packets));
      only : Touches (meaning l.initial.files) (meaning l.files) [] (names_in l.trip.outs);
      short : AllByRecursion (λ b. g.D.Device.measure b < g.D.Device.measure l.fn.buf.bytes) (drop l.k packets);
      link : l.to.link ≤ length l.trip.devices.now;
      cut : IsCutInto l.plan l.buf.bytes packets;
    }
