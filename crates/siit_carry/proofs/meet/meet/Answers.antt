use Rattle.std.proofs.Common.{◌≡◌, ◌+◌, Bool, true, false, List, [], ◌∷◌, Some, None, length, sym, ap, subst, ◌∙◌, refl, if◌then◌else◌}
use Rattle.std.proofs.lemmas.Option.{slice_get_read}
use Rattle.siit_chain.specs.Carried.{Event, event, event_of}
use Rattle.siit_chain.specs.Log.{Entry, drops, entry_text, text_of}
use Rattle.siit_chain.specs.Outcome.{Outcome, dropped, pieces, through, turned}
use Rattle.siit_chain.specs.Outputs.{name_in, GrewBy, GrewByPart}
use Rattle.siit_chain.specs.declared.origin.Output.TheVariants as outputs
use Rattle.siit_chain.proofs.Grown.{entry_text-drops, on_err_from, wrote_entry, wrote_entry_part}
use Rattle.siit_carry.specs.Happenings.{Happens}
use Rattle.siit_carry.specs.Steps.{chain_on, packet_at}
use Rattle.siit_carry.specs.declared.meet.Next.TheVariants.{Ended, Moves, Cut}
use Rattle.siit_carry.proofs.Events.{dropped_log, event_here, happens_answered, happens_pieces, happens_silent, happens_through, happens_turned, onward_within, place_within}
use Rattle.siit_carry.proofs.meet.meet.Goals as goal

pub returns-in-Through-clause-happens : goal.returns-in-Through-clause-happens
returns-in-Through-clause-happens g c =
    let names = name_in c.args.trip.now.outs in
    let origin = c.args.trip.now.origin in
    let devices = c.args.trip.now.devices.now in
    let chain = chain_on g.D.Device.outcome g.D.Device.measure c.args.trip.now in
    let old = g.F.Files.meaning c.args.files.now in
    let coming = g.I.Idents.coming c.args.idents.now in
    let at = c.args.at in
    let place = c.args.place in
    let p = packet_at at c.args.buf.now.bytes in
    let held = c.translate.new.buf.bytes in
    let counts = c.args.counts.now in
    let within = place_within (length devices) at.link place at.to c.requires.meets c.requires.link in
    let device = slice_get_read devices (length devices) place c.index-trip-place.result refl within c.index-trip-place.is in
    let here = λ (o : Outcome). event_here chain origin coming p place c.peek-ident.result c.other.result c.index-trip-place.result c.make_room.new.buf.bytes o c.requires.meets device c.other.ensures c.make_room.ensures.bytes c.peek-ident.ensures in
    let told = ap (λ x. g.D.Device.outcome x c.other.result c.make_room.new.buf.bytes c.peek-ident.result) c.index-trip-place.is in
    let onward_link = onward_within (length devices) at.link place at.to held c.requires.meets c.requires.link in
    let used = c.in-Through.used in
    let e : event chain origin coming p ≡ event_of origin (place + 1) p (through used held) = here (through used held) (told ∙ c.in-Through.ensures.outcome) in
    let next = c.onward.result in
    let coming_new = g.I.Idents.coming c.use_up.new.idents in
    subst (λ (x : Event). Happens names old old coming coming_new counts counts (length devices) (Moves next) held x) (sym e)
    (happens_through names old old coming coming_new counts counts (length devices) origin (place + 1) at next c.args.buf.now.bytes held used c.onward.ensures onward_link c.use_up.ensures)

pub returns-in-Turned-clause-happens : goal.returns-in-Turned-clause-happens
returns-in-Turned-clause-happens g c =
    let names = name_in c.args.trip.now.outs in
    let origin = c.args.trip.now.origin in
    let devices = c.args.trip.now.devices.now in
    let chain = chain_on g.D.Device.outcome g.D.Device.measure c.args.trip.now in
    let old = g.F.Files.meaning c.args.files.now in
    let coming = g.I.Idents.coming c.args.idents.now in
    let at = c.args.at in
    let place = c.args.place in
    let p = packet_at at c.args.buf.now.bytes in
    let held = c.translate.new.buf.bytes in
    let counts = c.args.counts.now in
    let within = place_within (length devices) at.link place at.to c.requires.meets c.requires.link in
    let device = slice_get_read devices (length devices) place c.index-trip-place.result refl within c.index-trip-place.is in
    let here = λ (o : Outcome). event_here chain origin coming p place c.peek-ident.result c.other.result c.index-trip-place.result c.make_room.new.buf.bytes o c.requires.meets device c.other.ensures c.make_room.ensures.bytes c.peek-ident.ensures in
    let told = ap (λ x. g.D.Device.outcome x c.other.result c.make_room.new.buf.bytes c.peek-ident.result) c.index-trip-place.is in
    let onward_link = onward_within (length devices) at.link place at.to held c.requires.meets c.requires.link in
    let e : event chain origin coming p ≡ event_of origin (place + 1) p (turned held) = here (turned held) (told ∙ c.in-Turned.ensures.outcome) in
    let next = c.back.result in
    subst (λ (x : Event). Happens names old old coming coming counts counts (length devices) (Moves next) held x) (sym e)
    (happens_turned names old old coming coming counts counts (length devices) origin (place + 1) at next c.args.buf.now.bytes held c.back.ensures c.requires.link)

pub returns-in-Pieces-clause-happens : goal.returns-in-Pieces-clause-happens
returns-in-Pieces-clause-happens g c =
    let names = name_in c.args.trip.now.outs in
    let origin = c.args.trip.now.origin in
    let devices = c.args.trip.now.devices.now in
    let chain = chain_on g.D.Device.outcome g.D.Device.measure c.args.trip.now in
    let old = g.F.Files.meaning c.args.files.now in
    let coming = g.I.Idents.coming c.args.idents.now in
    let at = c.args.at in
    let place = c.args.place in
    let p = packet_at at c.args.buf.now.bytes in
    let held = c.translate.new.buf.bytes in
    let counts = c.args.counts.now in
    let within = place_within (length devices) at.link place at.to c.requires.meets c.requires.link in
    let device = slice_get_read devices (length devices) place c.index-trip-place.result refl within c.index-trip-place.is in
    let here = λ (o : Outcome). event_here chain origin coming p place c.peek-ident.result c.other.result c.index-trip-place.result c.make_room.new.buf.bytes o c.requires.meets device c.other.ensures c.make_room.ensures.bytes c.peek-ident.ensures in
    let told = ap (λ x. g.D.Device.outcome x c.other.result c.make_room.new.buf.bytes c.peek-ident.result) c.index-trip-place.is in
    let onward_link = onward_within (length devices) at.link place at.to held c.requires.meets c.requires.link in
    let used = c.in-Pieces.used in
    let plan = c.in-Pieces.plan in
    let means = c.in-Pieces.ensures.outcome in
    let e : event chain origin coming p ≡ event_of origin (place + 1) p (pieces used means.packets) = here (pieces used means.packets) (told ∙ means.is) in
    let next = c.onward-to.result in
    let coming_new = g.I.Idents.coming c.use_up-in-Pieces.new.idents in
    subst (λ (x : Event). Happens names old old coming coming_new counts counts (length devices) (Cut plan next) held x) (sym e)
    (happens_pieces names old old coming coming_new counts counts (length devices) origin (place + 1) at next c.args.buf.now.bytes held used plan means.packets c.onward-to.ensures onward_link c.use_up-in-Pieces.ensures means.cut)

pub returns-in_err-write-in-Dropped-clause-err : goal.returns-in_err-write-in-Dropped-clause-err
returns-in_err-write-in-Dropped-clause-err g c =
    let names = name_in c.args.trip.now.outs in
    let origin = c.args.trip.now.origin in
    let devices = c.args.trip.now.devices.now in
    let chain = chain_on g.D.Device.outcome g.D.Device.measure c.args.trip.now in
    let old = g.F.Files.meaning c.args.files.now in
    let coming = g.I.Idents.coming c.args.idents.now in
    let at = c.args.at in
    let place = c.args.place in
    let p = packet_at at c.args.buf.now.bytes in
    let held = c.translate.new.buf.bytes in
    let counts = c.args.counts.now in
    let within = place_within (length devices) at.link place at.to c.requires.meets c.requires.link in
    let device = slice_get_read devices (length devices) place c.index-trip-place.result refl within c.index-trip-place.is in
    let here = λ (o : Outcome). event_here chain origin coming p place c.peek-ident.result c.other.result c.index-trip-place.result c.make_room.new.buf.bytes o c.requires.meets device c.other.ensures c.make_room.ensures.bytes c.peek-ident.ensures in
    let told = ap (λ x. g.D.Device.outcome x c.other.result c.make_room.new.buf.bytes c.peek-ident.result) c.index-trip-place.is in
    let onward_link = onward_within (length devices) at.link place at.to held c.requires.meets c.requires.link in
    let rule = c.in-Dropped.rule in
    let answered = c.in-Dropped.answered in
    let new = g.F.Files.meaning c.write.new.files in
    let text = c.as_bytes.result.now in
    let is : text ≡ entry_text (drops origin (place + 1) rule answered) = c.as_bytes.ensures.value ∙ c.as_str.ensures.value ∙ c.report_line-line.ensures ∙ sym (entry_text-drops origin (place + 1) rule answered) in
    let o : Outcome = dropped rule (if answered then Some held else None) in
    let e : event chain origin coming p ≡ event_of origin (place + 1) p o = here o (told ∙ c.in-Dropped.ensures.outcome) in
    let log : (event chain origin coming p).log ≡ drops origin (place + 1) rule answered ∷ [] = ap (λ (x : Event). x.log) e ∙ dropped_log origin (place + 1) rule p held answered in
    on_err_from c.from_residual.result
    (subst (λ (l : List Entry). GrewByPart names old new (text_of l)) (sym log)
    (wrote_entry_part (drops origin (place + 1) rule answered) outputs.Report text refl is c.in_err-write-in-Dropped.ensures.err))

pub returns-then-answered-clause-happens : goal.returns-then-answered-clause-happens
returns-then-answered-clause-happens g c =
    let names = name_in c.args.trip.now.outs in
    let origin = c.args.trip.now.origin in
    let devices = c.args.trip.now.devices.now in
    let chain = chain_on g.D.Device.outcome g.D.Device.measure c.args.trip.now in
    let old = g.F.Files.meaning c.args.files.now in
    let coming = g.I.Idents.coming c.args.idents.now in
    let at = c.args.at in
    let place = c.args.place in
    let p = packet_at at c.args.buf.now.bytes in
    let held = c.translate.new.buf.bytes in
    let counts = c.args.counts.now in
    let within = place_within (length devices) at.link place at.to c.requires.meets c.requires.link in
    let device = slice_get_read devices (length devices) place c.index-trip-place.result refl within c.index-trip-place.is in
    let here = λ (o : Outcome). event_here chain origin coming p place c.peek-ident.result c.other.result c.index-trip-place.result c.make_room.new.buf.bytes o c.requires.meets device c.other.ensures c.make_room.ensures.bytes c.peek-ident.ensures in
    let told = ap (λ x. g.D.Device.outcome x c.other.result c.make_room.new.buf.bytes c.peek-ident.result) c.index-trip-place.is in
    let onward_link = onward_within (length devices) at.link place at.to held c.requires.meets c.requires.link in
    let rule = c.in-Dropped.rule in
    let answered = c.in-Dropped.answered in
    let new = g.F.Files.meaning c.write.new.files in
    let text = c.as_bytes.result.now in
    let is : text ≡ entry_text (drops origin (place + 1) rule answered) = c.as_bytes.ensures.value ∙ c.as_str.ensures.value ∙ c.report_line-line.ensures ∙ sym (entry_text-drops origin (place + 1) rule answered) in
    let yes : answered ≡ true = c.if-answered.true in
    let o : Outcome = dropped rule (Some held) in
    let e : event chain origin coming p ≡ event_of origin (place + 1) p o = here o (told ∙ c.in-Dropped.ensures.outcome ∙ ap (λ (b : Bool). dropped rule (if b then Some held else None)) yes) in
    let next = c.back-then-answered.result in
    let grew : GrewBy names old new (text_of (drops origin (place + 1) rule true ∷ [])) =
    subst (λ (b : Bool). GrewBy names old new (text_of (drops origin (place + 1) rule b ∷ []))) yes
    (wrote_entry (drops origin (place + 1) rule answered) outputs.Report text refl is c.in_ok-write-in-Dropped.ensures.ok) in
    subst (λ (x : Event). Happens names old new coming coming counts c.count_drop.new.self (length devices) (Moves next) held x) (sym e)
    (happens_answered names old new coming coming counts c.count_drop.new.self (length devices) origin (place + 1) at next c.args.buf.now.bytes held rule c.back-then-answered.ensures c.requires.link grew (c.count_drop.ensures origin (place + 1) rule true))

pub returns-else-answered-clause-happens : goal.returns-else-answered-clause-happens
returns-else-answered-clause-happens g c =
    let names = name_in c.args.trip.now.outs in
    let origin = c.args.trip.now.origin in
    let devices = c.args.trip.now.devices.now in
    let chain = chain_on g.D.Device.outcome g.D.Device.measure c.args.trip.now in
    let old = g.F.Files.meaning c.args.files.now in
    let coming = g.I.Idents.coming c.args.idents.now in
    let at = c.args.at in
    let place = c.args.place in
    let p = packet_at at c.args.buf.now.bytes in
    let held = c.translate.new.buf.bytes in
    let counts = c.args.counts.now in
    let within = place_within (length devices) at.link place at.to c.requires.meets c.requires.link in
    let device = slice_get_read devices (length devices) place c.index-trip-place.result refl within c.index-trip-place.is in
    let here = λ (o : Outcome). event_here chain origin coming p place c.peek-ident.result c.other.result c.index-trip-place.result c.make_room.new.buf.bytes o c.requires.meets device c.other.ensures c.make_room.ensures.bytes c.peek-ident.ensures in
    let told = ap (λ x. g.D.Device.outcome x c.other.result c.make_room.new.buf.bytes c.peek-ident.result) c.index-trip-place.is in
    let onward_link = onward_within (length devices) at.link place at.to held c.requires.meets c.requires.link in
    let rule = c.in-Dropped.rule in
    let answered = c.in-Dropped.answered in
    let new = g.F.Files.meaning c.write.new.files in
    let text = c.as_bytes.result.now in
    let is : text ≡ entry_text (drops origin (place + 1) rule answered) = c.as_bytes.ensures.value ∙ c.as_str.ensures.value ∙ c.report_line-line.ensures ∙ sym (entry_text-drops origin (place + 1) rule answered) in
    let none : answered ≡ false = c.if-answered.false in
    let o : Outcome = dropped rule None in
    let e : event chain origin coming p ≡ event_of origin (place + 1) p o = here o (told ∙ c.in-Dropped.ensures.outcome ∙ ap (λ (b : Bool). dropped rule (if b then Some held else None)) none) in
    let grew : GrewBy names old new (text_of (drops origin (place + 1) rule false ∷ [])) =
    subst (λ (b : Bool). GrewBy names old new (text_of (drops origin (place + 1) rule b ∷ []))) none
    (wrote_entry (drops origin (place + 1) rule answered) outputs.Report text refl is c.in_ok-write-in-Dropped.ensures.ok) in
    subst (λ (x : Event). Happens names old new coming coming counts c.count_drop.new.self (length devices) Ended held x) (sym e)
    (happens_silent names old new coming coming counts c.count_drop.new.self (length devices) origin (place + 1) at at c.args.buf.now.bytes held rule grew (c.count_drop.ensures origin (place + 1) rule false))
