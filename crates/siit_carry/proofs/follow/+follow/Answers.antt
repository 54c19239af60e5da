use Rattle.std.proofs.Common.{◌≡◌, ◌+◌, ◌<◌, List, ℕ, [], ◌∷◌, None, length, drop, sym, ap, subst, ◌∙◌, refl, arith}
use Rattle.std.specs.Prelude.{map}
use Rattle.std.specs.List.{fold, AllByRecursion}
use Rattle.std.proofs.lemmas.Result.{err_from_is_err_and, on_ok_weaker, on_err_weaker}
use Rattle.siit_chain.specs.Carried.{Event, Packet, carry, event, fresh, leaving, place_met, used_up}
use Rattle.siit_chain.specs.Counted.{added}
use Rattle.siit_chain.specs.Log.{Entry, leaves, text_of}
use Rattle.siit_chain.specs.Outputs.{name_in, names_in, GrewBy, GrewByPart}
use Rattle.siit_chain.proofs.Grown.{failed_later, on_err_from, part_of_all}
use Rattle.siit_chain.proofs.Traces.{LivesLess, event_falls}
use Rattle.siit_word.specs.Files.{Touches}
use Rattle.siit_word.proofs.Touched.{touches_none, touches_then}
use Rattle.siit_carry.specs.Happenings.{Happens, IsDone}
use Rattle.siit_carry.specs.Steps.{IsUsed, chain_on, packet_at}
use Rattle.siit_carry.specs.declared.meet.Next.{Next}
use Rattle.siit_carry.specs.declared.meet.Next.TheVariants.{Ended, Moves, Cut}
use Rattle.siit_carry.proofs.Events.{event_leaves}
use Rattle.siit_carry.proofs.Ways.{SoFar, all_so_far, done_event, done_none, drop_end, drop_step, more_so_far, none_so_far, part_event, part_first, part_so_far, unmapped}
use Rattle.siit_carry.proofs.follow.+follow.Goals as goal

pub returns-in_err-write_packet-clause-err : goal.returns-in_err-write_packet-clause-err
returns-in_err-write_packet-clause-err g t c =
    let meaning = g.F.Files.meaning in
    let names = name_in c.args.trip.now.outs in
    let writes = names_in c.args.trip.now.outs in
    let origin = c.args.trip.now.origin in
    let devices = c.args.trip.now.devices.now in
    let chain = chain_on g.D.Device.outcome g.D.Device.measure c.args.trip.now in
    let measure = g.D.Device.measure in
    let falls = g.met.D.Device.falls in
    let at = c.args.at in
    let coming0 = g.I.Idents.coming c.args.idents.now in
    let p = packet_at at c.args.buf.now.bytes in
    let e = event chain origin coming0 p in
    let old = meaning c.args.files.now in
    let counts0 = c.args.counts.now in
    let none : place_met (length devices) at.link at.to ≡ None = let a = c.met.ensures in let b = c.in_default.ensures in cc in
    let is : e ≡ leaving origin p = event_leaves chain origin coming0 p none in
    let used : IsUsed e.user coming0 coming0 = subst (λ (x : Event). IsUsed x.user coming0 coming0) (sym is) (record { each = λ d k. refl }) in
    let new = meaning c.write_packet.new.files in
    on_err_from c.from_residual.result
    (part_first chain falls origin names old old new writes coming0 coming0 p used
    (subst (λ (x : Event). GrewByPart names old new (text_of x.log)) (sym is) c.in_err-write_packet.ensures.err))

pub returns-in_default-clause-done : goal.returns-in_default-clause-done
returns-in_default-clause-done g t c =
    let meaning = g.F.Files.meaning in
    let names = name_in c.args.trip.now.outs in
    let writes = names_in c.args.trip.now.outs in
    let origin = c.args.trip.now.origin in
    let devices = c.args.trip.now.devices.now in
    let chain = chain_on g.D.Device.outcome g.D.Device.measure c.args.trip.now in
    let measure = g.D.Device.measure in
    let falls = g.met.D.Device.falls in
    let at = c.args.at in
    let coming0 = g.I.Idents.coming c.args.idents.now in
    let p = packet_at at c.args.buf.now.bytes in
    let e = event chain origin coming0 p in
    let old = meaning c.args.files.now in
    let counts0 = c.args.counts.now in
    let none : place_met (length devices) at.link at.to ≡ None = let a = c.met.ensures in let b = c.in_default.ensures in cc in
    let is : e ≡ leaving origin p = event_leaves chain origin coming0 p none in
    let used : IsUsed e.user coming0 coming0 = subst (λ (x : Event). IsUsed x.user coming0 coming0) (sym is) (record { each = λ d k. refl }) in
    let new = meaning c.write_packet.new.files in
    let wrote : e.log ≡ leaves origin at.to c.args.buf.now.bytes ∷ [] = ap (λ (x : Event). x.log) is in
    let grew : GrewBy names old new (text_of e.log) = subst (λ (l : List Entry). GrewBy names old new (text_of l)) (sym wrote) c.in_ok-write_packet.ensures.ok in
    let counts1 = c.count_packet.new.self in
    let counted : counts1 ≡ added counts0 e.log = c.count_packet.ensures origin c.args.buf.now.bytes ∙ ap (added counts0) (sym wrote) in
    done_event chain falls origin names old new new writes coming0 coming0 p used coming0 counts0 counts1 counts1 c.in_ok-write_packet.ensures.only grew counted
    (subst (λ (x : Event). IsDone names new new coming0 counts1 counts1 (fold (carry chain origin) (fresh coming0) x.sent)) (sym is)
    (done_none names new coming0 counts1))

pub returns-in_err-meet-clause-err : goal.returns-in_err-meet-clause-err
returns-in_err-meet-clause-err g t c =
    let meaning = g.F.Files.meaning in
    let names = name_in c.args.trip.now.outs in
    let writes = names_in c.args.trip.now.outs in
    let origin = c.args.trip.now.origin in
    let devices = c.args.trip.now.devices.now in
    let chain = chain_on g.D.Device.outcome g.D.Device.measure c.args.trip.now in
    let measure = g.D.Device.measure in
    let falls = g.met.D.Device.falls in
    let at = c.args.at in
    let coming0 = g.I.Idents.coming c.args.idents.now in
    let p = packet_at at c.args.buf.now.bytes in
    let e = event chain origin coming0 p in
    let old = meaning c.args.files.now in
    let counts0 = c.args.counts.now in
    let mid = meaning c.meet.new.files in
    let coming1 = g.I.Idents.coming c.meet.new.idents in
    let held = c.meet.new.buf.bytes in
    let counts1 = c.meet.new.counts in
    on_err_from c.from_residual-in_err-meet.result
    (part_first chain falls origin names old mid mid writes coming0 (used_up e.user coming0) p (record { each = λ d k. refl }) c.in_err-meet.ensures.err)

pub follow-requires : goal.follow-requires
follow-requires g t c =
    let meaning = g.F.Files.meaning in
    let names = name_in c.args.trip.now.outs in
    let writes = names_in c.args.trip.now.outs in
    let origin = c.args.trip.now.origin in
    let devices = c.args.trip.now.devices.now in
    let chain = chain_on g.D.Device.outcome g.D.Device.measure c.args.trip.now in
    let measure = g.D.Device.measure in
    let falls = g.met.D.Device.falls in
    let at = c.args.at in
    let coming0 = g.I.Idents.coming c.args.idents.now in
    let p = packet_at at c.args.buf.now.bytes in
    let e = event chain origin coming0 p in
    let old = meaning c.args.files.now in
    let counts0 = c.args.counts.now in
    let mid = meaning c.meet.new.files in
    let coming1 = g.I.Idents.coming c.meet.new.idents in
    let held = c.meet.new.buf.bytes in
    let counts1 = c.meet.new.counts in
    let happens : Happens names old mid coming0 coming1 counts0 counts1 (length devices) (Moves c.in-Moves.to) held e =
    subst (λ (n : Next). Happens names old mid coming0 coming1 counts0 counts1 (length devices) n held e) c.in-Moves.is c.in_ok-meet.ensures.happens in
    let only : Touches old mid [] writes = c.in_ok-meet.ensures.only in
    let q = packet_at c.in-Moves.to held in
    let short : AllByRecursion (LivesLess chain (measure p.bytes)) (q ∷ []) =
    subst (λ (xs : List Packet). AllByRecursion (LivesLess chain (measure p.bytes)) xs) happens.sends.1 (event_falls chain falls origin coming0 p) in
    let less : measure held < t = omega (arith, short.0, c.decreases) in
    λ κs h. (less, (h.0, (h.1.0, (h.1.1, (c.requires.apart, (c.requires.few, happens.sends.0))))))

pub returns-in_err-part-in-Cut-clause-err : goal.returns-in_err-part-in-Cut-clause-err
returns-in_err-part-in-Cut-clause-err g t c =
    let meaning = g.F.Files.meaning in
    let names = name_in c.args.trip.now.outs in
    let writes = names_in c.args.trip.now.outs in
    let origin = c.args.trip.now.origin in
    let devices = c.args.trip.now.devices.now in
    let chain = chain_on g.D.Device.outcome g.D.Device.measure c.args.trip.now in
    let measure = g.D.Device.measure in
    let falls = g.met.D.Device.falls in
    let at = c.args.at in
    let coming0 = g.I.Idents.coming c.args.idents.now in
    let p = packet_at at c.args.buf.now.bytes in
    let e = event chain origin coming0 p in
    let old = meaning c.args.files.now in
    let counts0 = c.args.counts.now in
    let mid = meaning c.meet.new.files in
    let coming1 = g.I.Idents.coming c.meet.new.idents in
    let held = c.meet.new.buf.bytes in
    let counts1 = c.meet.new.counts in
    let happens : Happens names old mid coming0 coming1 counts0 counts1 (length devices) (Cut c.in-Cut.plan c.in-Cut.to) held e =
    subst (λ (n : Next). Happens names old mid coming0 coming1 counts0 counts1 (length devices) n held e) c.in-Cut.is c.in_ok-meet.ensures.happens in
    let only : Touches old mid [] writes = c.in_ok-meet.ensures.only in
    on_err_from c.from_residual-in_err-part-in-Cut.result
    (part_first chain falls origin names old mid mid writes coming0 coming1 p happens.used (part_of_all (text_of e.log) happens.grew))

pub loop-k-init : goal.loop-k-init
loop-k-init g t c =
    let meaning = g.F.Files.meaning in
    let names = name_in c.args.trip.now.outs in
    let writes = names_in c.args.trip.now.outs in
    let origin = c.args.trip.now.origin in
    let devices = c.args.trip.now.devices.now in
    let chain = chain_on g.D.Device.outcome g.D.Device.measure c.args.trip.now in
    let measure = g.D.Device.measure in
    let falls = g.met.D.Device.falls in
    let at = c.args.at in
    let coming0 = g.I.Idents.coming c.args.idents.now in
    let p = packet_at at c.args.buf.now.bytes in
    let e = event chain origin coming0 p in
    let old = meaning c.args.files.now in
    let counts0 = c.args.counts.now in
    let mid = meaning c.meet.new.files in
    let coming1 = g.I.Idents.coming c.meet.new.idents in
    let held = c.meet.new.buf.bytes in
    let counts1 = c.meet.new.counts in
    let happens : Happens names old mid coming0 coming1 counts0 counts1 (length devices) (Cut c.in-Cut.plan c.in-Cut.to) held e =
    subst (λ (n : Next). Happens names old mid coming0 coming1 counts0 counts1 (length devices) n held e) c.in-Cut.is c.in_ok-meet.ensures.happens in
    let only : Touches old mid [] writes = c.in_ok-meet.ensures.only in
    let plan = c.in-Cut.plan in
    let to = c.in-Cut.to in
    let cuts = happens.sends in
    let packets = cuts.packets in
    record {
      packets = packets;
      are = cuts.are;
      so_far = none_so_far chain origin names mid coming1 counts1 (map (packet_at to) packets);
      only = touches_none;
      short = unmapped chain (measure c.args.buf.now.bytes) to packets (subst (λ (xs : List Packet). AllByRecursion (LivesLess chain (measure p.bytes)) xs) cuts.are (event_falls chain falls origin coming0 p));
      link = cuts.link;
      cut = cuts.cut;
    }

pub follow-requires-in-loop-k : goal.follow-requires-in-loop-k
follow-requires-in-loop-k g t c =
    let meaning = g.F.Files.meaning in
    let names = name_in c.args.trip.now.outs in
    let writes = names_in c.args.trip.now.outs in
    let origin = c.args.trip.now.origin in
    let devices = c.args.trip.now.devices.now in
    let chain = chain_on g.D.Device.outcome g.D.Device.measure c.args.trip.now in
    let measure = g.D.Device.measure in
    let falls = g.met.D.Device.falls in
    let at = c.args.at in
    let coming0 = g.I.Idents.coming c.args.idents.now in
    let p = packet_at at c.args.buf.now.bytes in
    let e = event chain origin coming0 p in
    let old = meaning c.args.files.now in
    let counts0 = c.args.counts.now in
    let mid = meaning c.meet.new.files in
    let coming1 = g.I.Idents.coming c.meet.new.idents in
    let held = c.meet.new.buf.bytes in
    let counts1 = c.meet.new.counts in
    let happens : Happens names old mid coming0 coming1 counts0 counts1 (length devices) (Cut c.in-Cut.plan c.in-Cut.to) held e =
    subst (λ (n : Next). Happens names old mid coming0 coming1 counts0 counts1 (length devices) n held e) c.in-Cut.is c.in_ok-meet.ensures.happens in
    let only : Touches old mid [] writes = c.in_ok-meet.ensures.only in
    let plan = c.in-Cut.plan in
    let to = c.in-Cut.to in
    let k = c.loop-k.k in
    let s = c.loop-k.invariant in
    let packets = s.packets in
    let all = fold (carry chain origin) (fresh coming1) (map (packet_at to) packets) in
    let now = meaning c.loop-k.files in
    let coming2 = g.I.Idents.coming c.loop-k.idents in
    let counts2 = c.loop-k.counts in
    let more : k < plan.count = c.loop-k-test.true in
    let part = c.piece.new.out.bytes in
    let step : drop k packets ≡ part ∷ drop (k + 1) packets = drop_step packets k part (s.cut.each k part more c.piece.ensures.bytes) in
    let short = subst (λ (xs : List (List ℕ)). AllByRecursion (λ b. measure b < measure c.args.buf.now.bytes) xs) step s.short in
    let less : measure part < t = omega (arith, short.0, c.decreases) in
    λ κs h. (less, (h.0, (h.1.0, (h.1.1, (c.requires.apart, (c.requires.few, s.link))))))

pub returns-in_err-follow-in-Cut-clause-err : goal.returns-in_err-follow-in-Cut-clause-err
returns-in_err-follow-in-Cut-clause-err g t c =
    let meaning = g.F.Files.meaning in
    let names = name_in c.args.trip.now.outs in
    let writes = names_in c.args.trip.now.outs in
    let origin = c.args.trip.now.origin in
    let devices = c.args.trip.now.devices.now in
    let chain = chain_on g.D.Device.outcome g.D.Device.measure c.args.trip.now in
    let measure = g.D.Device.measure in
    let falls = g.met.D.Device.falls in
    let at = c.args.at in
    let coming0 = g.I.Idents.coming c.args.idents.now in
    let p = packet_at at c.args.buf.now.bytes in
    let e = event chain origin coming0 p in
    let old = meaning c.args.files.now in
    let counts0 = c.args.counts.now in
    let mid = meaning c.meet.new.files in
    let coming1 = g.I.Idents.coming c.meet.new.idents in
    let held = c.meet.new.buf.bytes in
    let counts1 = c.meet.new.counts in
    let happens : Happens names old mid coming0 coming1 counts0 counts1 (length devices) (Cut c.in-Cut.plan c.in-Cut.to) held e =
    subst (λ (n : Next). Happens names old mid coming0 coming1 counts0 counts1 (length devices) n held e) c.in-Cut.is c.in_ok-meet.ensures.happens in
    let only : Touches old mid [] writes = c.in_ok-meet.ensures.only in
    let plan = c.in-Cut.plan in
    let to = c.in-Cut.to in
    let k = c.loop-k.k in
    let s = c.loop-k.invariant in
    let packets = s.packets in
    let all = fold (carry chain origin) (fresh coming1) (map (packet_at to) packets) in
    let now = meaning c.loop-k.files in
    let coming2 = g.I.Idents.coming c.loop-k.idents in
    let counts2 = c.loop-k.counts in
    let more : k < plan.count = c.loop-k-test.true in
    let part = c.piece.new.out.bytes in
    let step : drop k packets ≡ part ∷ drop (k + 1) packets = drop_step packets k part (s.cut.each k part more c.piece.ensures.bytes) in
    let q = packet_at to part in
    let todo = map (packet_at to) (drop (k + 1) packets) in
    let after = meaning c.follow-in-loop-k.new.files in
    let sofar : SoFar chain origin names mid now coming2 counts1 counts2 (q ∷ todo) all =
    subst (λ (xs : List (List ℕ)). SoFar chain origin names mid now coming2 counts1 counts2 (map (packet_at to) xs) all) step s.so_far in
    let inner : GrewByPart names mid after (text_of all.log) = part_so_far chain origin names mid now after writes coming2 counts1 counts2 q todo all s.only sofar c.in_err-follow-in-Cut.ensures.err in
    on_err_from c.from_residual-in_err-follow-in-Cut.result
    (part_event chain falls origin names old mid after writes coming0 coming1 p happens.used only happens.grew
    (subst (λ (xs : List Packet). GrewByPart names mid after (text_of (fold (carry chain origin) (fresh coming1) xs).log)) (sym s.are) inner))

pub returns-in_err-follow-in-Cut-clause-cause : goal.returns-in_err-follow-in-Cut-clause-cause
returns-in_err-follow-in-Cut-clause-cause g t c =
    let meaning = g.F.Files.meaning in
    let names = name_in c.args.trip.now.outs in
    let writes = names_in c.args.trip.now.outs in
    let origin = c.args.trip.now.origin in
    let devices = c.args.trip.now.devices.now in
    let chain = chain_on g.D.Device.outcome g.D.Device.measure c.args.trip.now in
    let measure = g.D.Device.measure in
    let falls = g.met.D.Device.falls in
    let at = c.args.at in
    let coming0 = g.I.Idents.coming c.args.idents.now in
    let p = packet_at at c.args.buf.now.bytes in
    let e = event chain origin coming0 p in
    let old = meaning c.args.files.now in
    let counts0 = c.args.counts.now in
    let mid = meaning c.meet.new.files in
    let coming1 = g.I.Idents.coming c.meet.new.idents in
    let held = c.meet.new.buf.bytes in
    let counts1 = c.meet.new.counts in
    let happens : Happens names old mid coming0 coming1 counts0 counts1 (length devices) (Cut c.in-Cut.plan c.in-Cut.to) held e =
    subst (λ (n : Next). Happens names old mid coming0 coming1 counts0 counts1 (length devices) n held e) c.in-Cut.is c.in_ok-meet.ensures.happens in
    let only : Touches old mid [] writes = c.in_ok-meet.ensures.only in
    let s = c.loop-k.invariant in
    λ is.
    let from = err_from_is_err_and c.from_residual-in_err-follow-in-Cut.result c.from_residual-in_err-follow-in-Cut.ensures.1 in
    let failed = c.in_err-follow-in-Cut.ensures.cause (let a = from.1 in let b = from.2 in cc) in
    failed_later only (failed_later s.only failed)

pub returns-in_err-follow-in-Cut-clause-only : goal.returns-in_err-follow-in-Cut-clause-only
returns-in_err-follow-in-Cut-clause-only g t c =
    let meaning = g.F.Files.meaning in
    let names = name_in c.args.trip.now.outs in
    let writes = names_in c.args.trip.now.outs in
    let origin = c.args.trip.now.origin in
    let devices = c.args.trip.now.devices.now in
    let chain = chain_on g.D.Device.outcome g.D.Device.measure c.args.trip.now in
    let measure = g.D.Device.measure in
    let falls = g.met.D.Device.falls in
    let at = c.args.at in
    let coming0 = g.I.Idents.coming c.args.idents.now in
    let p = packet_at at c.args.buf.now.bytes in
    let e = event chain origin coming0 p in
    let old = meaning c.args.files.now in
    let counts0 = c.args.counts.now in
    let mid = meaning c.meet.new.files in
    let coming1 = g.I.Idents.coming c.meet.new.idents in
    let held = c.meet.new.buf.bytes in
    let counts1 = c.meet.new.counts in
    let happens : Happens names old mid coming0 coming1 counts0 counts1 (length devices) (Cut c.in-Cut.plan c.in-Cut.to) held e =
    subst (λ (n : Next). Happens names old mid coming0 coming1 counts0 counts1 (length devices) n held e) c.in-Cut.is c.in_ok-meet.ensures.happens in
    let only : Touches old mid [] writes = c.in_ok-meet.ensures.only in
    touches_then only (touches_then c.loop-k.invariant.only c.in_err-follow-in-Cut.ensures.only)

pub loop-k-preserved : goal.loop-k-preserved
loop-k-preserved g t c =
    let meaning = g.F.Files.meaning in
    let names = name_in c.args.trip.now.outs in
    let writes = names_in c.args.trip.now.outs in
    let origin = c.args.trip.now.origin in
    let devices = c.args.trip.now.devices.now in
    let chain = chain_on g.D.Device.outcome g.D.Device.measure c.args.trip.now in
    let measure = g.D.Device.measure in
    let falls = g.met.D.Device.falls in
    let at = c.args.at in
    let coming0 = g.I.Idents.coming c.args.idents.now in
    let p = packet_at at c.args.buf.now.bytes in
    let e = event chain origin coming0 p in
    let old = meaning c.args.files.now in
    let counts0 = c.args.counts.now in
    let mid = meaning c.meet.new.files in
    let coming1 = g.I.Idents.coming c.meet.new.idents in
    let held = c.meet.new.buf.bytes in
    let counts1 = c.meet.new.counts in
    let happens : Happens names old mid coming0 coming1 counts0 counts1 (length devices) (Cut c.in-Cut.plan c.in-Cut.to) held e =
    subst (λ (n : Next). Happens names old mid coming0 coming1 counts0 counts1 (length devices) n held e) c.in-Cut.is c.in_ok-meet.ensures.happens in
    let only : Touches old mid [] writes = c.in_ok-meet.ensures.only in
    let plan = c.in-Cut.plan in
    let to = c.in-Cut.to in
    let k = c.loop-k.k in
    let s = c.loop-k.invariant in
    let packets = s.packets in
    let all = fold (carry chain origin) (fresh coming1) (map (packet_at to) packets) in
    let now = meaning c.loop-k.files in
    let coming2 = g.I.Idents.coming c.loop-k.idents in
    let counts2 = c.loop-k.counts in
    let more : k < plan.count = c.loop-k-test.true in
    let part = c.piece.new.out.bytes in
    let step : drop k packets ≡ part ∷ drop (k + 1) packets = drop_step packets k part (s.cut.each k part more c.piece.ensures.bytes) in
    let q = packet_at to part in
    let todo = map (packet_at to) (drop (k + 1) packets) in
    let after = meaning c.follow-in-loop-k.new.files in
    let sofar : SoFar chain origin names mid now coming2 counts1 counts2 (q ∷ todo) all =
    subst (λ (xs : List (List ℕ)). SoFar chain origin names mid now coming2 counts1 counts2 (map (packet_at to) xs) all) step s.so_far in
    let short = subst (λ (xs : List (List ℕ)). AllByRecursion (λ b. measure b < measure c.args.buf.now.bytes) xs) step s.short in
    let coming3 = g.I.Idents.coming c.follow-in-loop-k.new.idents in
    record {
      packets = packets;
      are = s.are;
      so_far = more_so_far chain origin names mid now after writes coming2 coming3 counts1 counts2 c.follow-in-loop-k.new.counts q todo all s.only sofar c.in_ok-follow-in-Cut.ensures.done;
      only = touches_then s.only c.in_ok-follow-in-Cut.ensures.only;
      short = short.1;
      link = s.link;
      cut = s.cut;
    }

pub returns-in-Ended-clause-done : goal.returns-in-Ended-clause-done
returns-in-Ended-clause-done g t c =
    let meaning = g.F.Files.meaning in
    let names = name_in c.args.trip.now.outs in
    let writes = names_in c.args.trip.now.outs in
    let origin = c.args.trip.now.origin in
    let devices = c.args.trip.now.devices.now in
    let chain = chain_on g.D.Device.outcome g.D.Device.measure c.args.trip.now in
    let measure = g.D.Device.measure in
    let falls = g.met.D.Device.falls in
    let at = c.args.at in
    let coming0 = g.I.Idents.coming c.args.idents.now in
    let p = packet_at at c.args.buf.now.bytes in
    let e = event chain origin coming0 p in
    let old = meaning c.args.files.now in
    let counts0 = c.args.counts.now in
    let mid = meaning c.meet.new.files in
    let coming1 = g.I.Idents.coming c.meet.new.idents in
    let held = c.meet.new.buf.bytes in
    let counts1 = c.meet.new.counts in
    let happens : Happens names old mid coming0 coming1 counts0 counts1 (length devices) Ended held e =
    subst (λ (n : Next). Happens names old mid coming0 coming1 counts0 counts1 (length devices) n held e) c.in-Ended.is c.in_ok-meet.ensures.happens in
    let only : Touches old mid [] writes = c.in_ok-meet.ensures.only in
    done_event chain falls origin names old mid mid writes coming0 coming1 p happens.used coming1 counts0 counts1 counts1 only happens.grew happens.counts
    (subst (λ (xs : List Packet). IsDone names mid mid coming1 counts1 counts1 (fold (carry chain origin) (fresh coming1) xs)) (sym happens.sends)
    (done_none names mid coming1 counts1))

pub returns-in-Moves-clause-done : goal.returns-in-Moves-clause-done
returns-in-Moves-clause-done g t c =
    let meaning = g.F.Files.meaning in
    let names = name_in c.args.trip.now.outs in
    let writes = names_in c.args.trip.now.outs in
    let origin = c.args.trip.now.origin in
    let devices = c.args.trip.now.devices.now in
    let chain = chain_on g.D.Device.outcome g.D.Device.measure c.args.trip.now in
    let measure = g.D.Device.measure in
    let falls = g.met.D.Device.falls in
    let at = c.args.at in
    let coming0 = g.I.Idents.coming c.args.idents.now in
    let p = packet_at at c.args.buf.now.bytes in
    let e = event chain origin coming0 p in
    let old = meaning c.args.files.now in
    let counts0 = c.args.counts.now in
    let mid = meaning c.meet.new.files in
    let coming1 = g.I.Idents.coming c.meet.new.idents in
    let held = c.meet.new.buf.bytes in
    let counts1 = c.meet.new.counts in
    let happens : Happens names old mid coming0 coming1 counts0 counts1 (length devices) (Moves c.in-Moves.to) held e =
    subst (λ (n : Next). Happens names old mid coming0 coming1 counts0 counts1 (length devices) n held e) c.in-Moves.is c.in_ok-meet.ensures.happens in
    let only : Touches old mid [] writes = c.in_ok-meet.ensures.only in
    let new = meaning c.follow.new.files in
    let coming2 = g.I.Idents.coming c.follow.new.idents in
    on_ok_weaker c.follow.result (λ done.
    done_event chain falls origin names old mid new writes coming0 coming1 p happens.used coming2 counts0 counts1 c.follow.new.counts only happens.grew happens.counts
    (subst (λ (xs : List Packet). IsDone names mid new coming2 counts1 c.follow.new.counts (fold (carry chain origin) (fresh coming1) xs)) (sym happens.sends.1) done)) c.follow.ensures.done

pub returns-in-Moves-clause-err : goal.returns-in-Moves-clause-err
returns-in-Moves-clause-err g t c =
    let meaning = g.F.Files.meaning in
    let names = name_in c.args.trip.now.outs in
    let writes = names_in c.args.trip.now.outs in
    let origin = c.args.trip.now.origin in
    let devices = c.args.trip.now.devices.now in
    let chain = chain_on g.D.Device.outcome g.D.Device.measure c.args.trip.now in
    let measure = g.D.Device.measure in
    let falls = g.met.D.Device.falls in
    let at = c.args.at in
    let coming0 = g.I.Idents.coming c.args.idents.now in
    let p = packet_at at c.args.buf.now.bytes in
    let e = event chain origin coming0 p in
    let old = meaning c.args.files.now in
    let counts0 = c.args.counts.now in
    let mid = meaning c.meet.new.files in
    let coming1 = g.I.Idents.coming c.meet.new.idents in
    let held = c.meet.new.buf.bytes in
    let counts1 = c.meet.new.counts in
    let happens : Happens names old mid coming0 coming1 counts0 counts1 (length devices) (Moves c.in-Moves.to) held e =
    subst (λ (n : Next). Happens names old mid coming0 coming1 counts0 counts1 (length devices) n held e) c.in-Moves.is c.in_ok-meet.ensures.happens in
    let only : Touches old mid [] writes = c.in_ok-meet.ensures.only in
    let new = meaning c.follow.new.files in
    on_err_weaker c.follow.result (λ part.
    part_event chain falls origin names old mid new writes coming0 coming1 p happens.used only happens.grew
    (subst (λ (xs : List Packet). GrewByPart names mid new (text_of (fold (carry chain origin) (fresh coming1) xs).log)) (sym happens.sends.1) part)) c.follow.ensures.err

pub returns-after-loop-k-clause-done : goal.returns-after-loop-k-clause-done
returns-after-loop-k-clause-done g t c =
    let meaning = g.F.Files.meaning in
    let names = name_in c.args.trip.now.outs in
    let writes = names_in c.args.trip.now.outs in
    let origin = c.args.trip.now.origin in
    let devices = c.args.trip.now.devices.now in
    let chain = chain_on g.D.Device.outcome g.D.Device.measure c.args.trip.now in
    let measure = g.D.Device.measure in
    let falls = g.met.D.Device.falls in
    let at = c.args.at in
    let coming0 = g.I.Idents.coming c.args.idents.now in
    let p = packet_at at c.args.buf.now.bytes in
    let e = event chain origin coming0 p in
    let old = meaning c.args.files.now in
    let counts0 = c.args.counts.now in
    let mid = meaning c.meet.new.files in
    let coming1 = g.I.Idents.coming c.meet.new.idents in
    let held = c.meet.new.buf.bytes in
    let counts1 = c.meet.new.counts in
    let happens : Happens names old mid coming0 coming1 counts0 counts1 (length devices) (Cut c.in-Cut.plan c.in-Cut.to) held e =
    subst (λ (n : Next). Happens names old mid coming0 coming1 counts0 counts1 (length devices) n held e) c.in-Cut.is c.in_ok-meet.ensures.happens in
    let only : Touches old mid [] writes = c.in_ok-meet.ensures.only in
    let plan = c.in-Cut.plan in
    let to = c.in-Cut.to in
    let k = c.loop-k.k in
    let s = c.loop-k.invariant in
    let packets = s.packets in
    let all = fold (carry chain origin) (fresh coming1) (map (packet_at to) packets) in
    let now = meaning c.loop-k.files in
    let coming2 = g.I.Idents.coming c.loop-k.idents in
    let counts2 = c.loop-k.counts in
    let last : k ≡ length packets = omega (arith, c.loop-k-test.false, c.loop-k.auto.k-end, s.cut.as_many) in
    let none : map (packet_at to) (drop k packets) ≡ [] = ap (map (packet_at to)) (drop_end packets k last) in
    let inner : IsDone names mid now coming2 counts1 counts2 all =
    all_so_far chain origin names mid now coming2 counts1 counts2 all
    (subst (λ (xs : List Packet). SoFar chain origin names mid now coming2 counts1 counts2 xs all) none s.so_far) in
    done_event chain falls origin names old mid now writes coming0 coming1 p happens.used coming2 counts0 counts1 counts2 only happens.grew happens.counts
    (subst (λ (xs : List Packet). IsDone names mid now coming2 counts1 counts2 (fold (carry chain origin) (fresh coming1) xs)) (sym s.are) inner)

pub returns-after-loop-k-clause-only : goal.returns-after-loop-k-clause-only
returns-after-loop-k-clause-only g t c =
    let meaning = g.F.Files.meaning in
    let names = name_in c.args.trip.now.outs in
    let writes = names_in c.args.trip.now.outs in
    let origin = c.args.trip.now.origin in
    let devices = c.args.trip.now.devices.now in
    let chain = chain_on g.D.Device.outcome g.D.Device.measure c.args.trip.now in
    let measure = g.D.Device.measure in
    let falls = g.met.D.Device.falls in
    let at = c.args.at in
    let coming0 = g.I.Idents.coming c.args.idents.now in
    let p = packet_at at c.args.buf.now.bytes in
    let e = event chain origin coming0 p in
    let old = meaning c.args.files.now in
    let counts0 = c.args.counts.now in
    let mid = meaning c.meet.new.files in
    let coming1 = g.I.Idents.coming c.meet.new.idents in
    let held = c.meet.new.buf.bytes in
    let counts1 = c.meet.new.counts in
    let happens : Happens names old mid coming0 coming1 counts0 counts1 (length devices) (Cut c.in-Cut.plan c.in-Cut.to) held e =
    subst (λ (n : Next). Happens names old mid coming0 coming1 counts0 counts1 (length devices) n held e) c.in-Cut.is c.in_ok-meet.ensures.happens in
    let only : Touches old mid [] writes = c.in_ok-meet.ensures.only in
    touches_then only c.loop-k.invariant.only
