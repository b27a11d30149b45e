-- `inputs::readings` meets its contract: eight readings, one after the other. Assumes nothing.
use Rattle.reading.specs.declared.Reading.{Reading}
use Rattle.reading.specs.Kind.{Readings}
use Rattle.inputs.specs.Inputs.{reading_in, readings_of}
use Rattle.inputs.proofs.Taken.{took, started, and_then}
use Rattle.inputs.proofs.readings.Goals as goal

-- The record of its parts.
abbrev make : Reading → Reading → Reading → Reading → Reading → Reading → Reading → Reading → Readings
make v0 v1 v2 v3 v4 v5 v6 v7 = record { speed = v0; load = v1; engine = v2; hc = v3; co = v4; no = v5; co2 = v6; o2 = v7 }

pub returns : goal.returns
unfolding readings_of
returns g c =
    let r0 = took 4 reading_in _ _ _ _ c.in_ok-reading.was c.reading.ensures in
    let r1 = took 4 reading_in _ _ _ _ c.in_ok-reading-2.was c.reading-2.ensures in
    let r2 = took 4 reading_in _ _ _ _ c.in_ok-reading-3.was c.reading-3.ensures in
    let r3 = took 4 reading_in _ _ _ _ c.in_ok-reading-4.was c.reading-4.ensures in
    let r4 = took 4 reading_in _ _ _ _ c.in_ok-reading-5.was c.reading-5.ensures in
    let r5 = took 4 reading_in _ _ _ _ c.in_ok-reading-6.was c.reading-6.ensures in
    let r6 = took 4 reading_in _ _ _ _ c.in_ok-reading-7.was c.reading-7.ensures in
    let r7 = took 4 reading_in _ _ _ _ c.in_ok-reading-8.was c.reading-8.ensures in
    let t0 = started make _ in
    let t1 = and_then 0 4 _ reading_in _ _ _ _ _ t0 r0 in
    let t2 = and_then 4 4 _ reading_in _ _ _ _ _ t1 r1 in
    let t3 = and_then 8 4 _ reading_in _ _ _ _ _ t2 r2 in
    let t4 = and_then 12 4 _ reading_in _ _ _ _ _ t3 r3 in
    let t5 = and_then 16 4 _ reading_in _ _ _ _ _ t4 r4 in
    let t6 = and_then 20 4 _ reading_in _ _ _ _ _ t5 r5 in
    let t7 = and_then 24 4 _ reading_in _ _ _ _ _ t6 r6 in
    and_then 28 4 _ reading_in _ _ _ _ _ t7 r7
