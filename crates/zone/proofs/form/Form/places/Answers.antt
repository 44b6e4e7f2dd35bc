-- Each arm is the row of its form.
use Rattle.zone.proofs.form.Form.places.Goals as goal

pub returns-in-Td1 : goal.returns-in-Td1
returns-in-Td1 c = simp (← c.td1_places.ensures, c.in-Td1.is)

pub returns-in-Td2 : goal.returns-in-Td2
returns-in-Td2 c = simp (← c.td2_places.ensures, c.in-Td2.is)

pub returns-in-Td3 : goal.returns-in-Td3
returns-in-Td3 c = simp (← c.td3_places.ensures, c.in-Td3.is)

pub returns-in-MrvA : goal.returns-in-MrvA
returns-in-MrvA c = simp (← c.mrv_a_places.ensures, c.in-MrvA.is)

pub returns-in-MrvB : goal.returns-in-MrvB
returns-in-MrvB c = simp (← c.mrv_b_places.ensures, c.in-MrvB.is)
