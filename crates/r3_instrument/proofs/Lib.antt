mod OneHooked
